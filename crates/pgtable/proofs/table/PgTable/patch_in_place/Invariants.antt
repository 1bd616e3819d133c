use Rattle.std.proofs.Common.{◌≤◌, ◌-◌, length, take}
use Rattle.std.specs.List.{sum_by}
use Rattle.pgtable.specs.declared.pool_table.PoolTable.{PoolTable}
use Rattle.pgtable.specs.Rooms.{RunMore}
use Rattle.pgtable.specs.Patches.{evals_in, patches_of}
use Rattle.pgtable.specs.After.{map_after}
use Rattle.pgtable.proofs.PatchedInPlace.{Sofar}
use Rattle.pgtable.proofs.table.PgTable.patch_in_place.Given as goal

abbrev pub invariant-loop-at : goal.invariant-loop-at
invariant-loop-at g l = record {
  inside : l.at ≤ length l.self.pools;
  sofar : Sofar l.self.pools (map_after l.update) l.update.change.now l.at (patches_of l.patches) l.evals;
  runs : RunMore (sum_by (λ (q : PoolTable). evals_in (map_after l.update) l.update.change.now q.pool) (take l.at l.self.pools)) l.initial.rooms l.rooms;
}

abbrev pub decreases-loop-at : goal.decreases-loop-at
decreases-loop-at g l = length l.self.pools - l.at
