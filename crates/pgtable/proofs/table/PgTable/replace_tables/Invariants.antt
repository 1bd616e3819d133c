use Rattle.std.proofs.Common.{◌≡◌, drop, map, take}
use Rattle.std.specs.List.{sum_by}
use Rattle.osdmap.specs.Evals.{is_touched}
use Rattle.pgtable.specs.Rooms.{RunMore}
use Rattle.pgtable.specs.After.{map_after}
use Rattle.pgtable.specs.Patches.{evals_in}
use Rattle.pgtable.specs.Tables.{pool_table}
use Rattle.pgtable.proofs.MadeAnew.{back, kept_evals}
use Rattle.pgtable.proofs.Making.{Makes}
use Rattle.pgtable.proofs.table.PgTable.replace_tables.Given as goal

-- the tables so far are made, and those of the touched pools that come are left
abbrev pub invariant-loop-pool : goal.invariant-loop-pool
invariant-loop-pool g l = record {
  made : Makes l.self.pools (map_after l.update) l.pool-index l.pools.items l.kept.items;
  rest : l.made_anew.items ≡ map (pool_table (map_after l.update)) (back (is_touched (map_after l.update) l.update.change.now) (drop l.pool-index (map_after l.update).pools));
  evals : l.evals ≡ sum_by (evals_in (map_after l.update) l.update.change.now) (take l.pool-index (map_after l.update).pools);
  runs : RunMore (sum_by (kept_evals (map_after l.update) l.update.change.now) (take l.pool-index (map_after l.update).pools)) l.initial.rooms l.rooms;
}
