use Rattle.std.proofs.Common.{◌≡◌, map, take}
use Rattle.maptypes.specs.Pools.{total_groups}
use Rattle.pgtable.specs.Tables.{RunsMore, pool_table}
use Rattle.pgtable.proofs.stretches.tables_in_one.Given as goal

abbrev pub invariant-loop-pool : goal.invariant-loop-pool
invariant-loop-pool l = record {
  made : l.tables.items ≡ map (pool_table l.map.map) (take l.pool-index l.pools);
  runs : RunsMore (total_groups (take l.pool-index l.pools)) l.initial.work l.work;
}
