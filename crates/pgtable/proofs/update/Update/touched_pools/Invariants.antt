use Rattle.std.proofs.Common.{◌≡◌, drop}
use Rattle.pgtable.specs.After.{map_after, is_touched_by}
use Rattle.pgtable.proofs.MadeAnew.{back}
use Rattle.pgtable.proofs.update.Update.touched_pools.Given as goal

-- those among the pools so far, which are the last
abbrev pub invariant-loop-at : goal.invariant-loop-at
invariant-loop-at l = l.touched.items ≡ back (is_touched_by l.self) (drop l.at (map_after l.self).pools)
