use Rattle.std.proofs.Common.{◌≡◌, ◌≤◌, take, length}
use Rattle.pgtable.proofs.mapped.store_set.Given as goal

abbrev pub invariant-loop-place : goal.invariant-loop-place
invariant-loop-place l = (l.stored ≡ take l.place-index l.set) × (length l.stored ≤ l.place-index)
