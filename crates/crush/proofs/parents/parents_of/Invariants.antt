use Rattle.std.proofs.Common.{◌≡◌, ℤ, IsTrue, drop, find, slice_get, slice_index}
use Rattle.crush.specs.Paths.{has_item}
use Rattle.crush.specs.Slots.{slot}
use Rattle.crush.specs.WellFormed.{is_known}
use Rattle.crush.proofs.parents.parents_of.Given as goal

-- the places are those among the buckets so far, which are the last
abbrev pub invariant-loop-place : goal.invariant-loop-place
invariant-loop-place l = (id : ℤ) → IsTrue (is_known l.buckets 4096 id) → slice_get l.buckets (slice_index l.parents (slot l.buckets id)) ≡ find (has_item id) (drop l.place l.buckets)
