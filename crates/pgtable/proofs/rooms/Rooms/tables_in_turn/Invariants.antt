use Rattle.std.proofs.Common.{◌≡◌, map, take}
use Rattle.maptypes.specs.Pools.{total_groups}
use Rattle.pgtable.specs.Rooms.{RunMore}
use Rattle.pgtable.specs.Tables.{pool_table}
use Rattle.pgtable.proofs.rooms.Rooms.tables_in_turn.Given as goal

abbrev pub invariant-loop-pool : goal.invariant-loop-pool
invariant-loop-pool g l = record {
  made : l.tables.items ≡ map (pool_table l.map.map) (take l.pool-index l.pools);
  runs : RunMore (total_groups (take l.pool-index l.pools)) l.initial.self l.self;
}
