use Rattle.std.proofs.Common.{◌≡◌, cond, ℤ, IsTrue, take, slice_index}
use Rattle.std.specs.List.{list_any}
use Rattle.std.specs.Ordering.{int_eq}
use Rattle.crush.specs.Slots.{slot}
use Rattle.crush.specs.WellFormed.{is_known}
use Rattle.crush.proofs.parents.enter.Given as goal

-- the place stands at the numbers of the items so far
abbrev pub invariant-loop-item : goal.invariant-loop-item
invariant-loop-item l = (id : ℤ) → IsTrue (is_known l.buckets 4096 id) → slice_index l.parents (slot l.buckets id) ≡ cond (list_any (λ i. int_eq i.id id) (take l.item-index l.items)) l.place (slice_index l.initial.parents (slot l.buckets id))
