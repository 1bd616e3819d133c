use Rattle.std.proofs.Common.{◌≡◌, ◌+◌, ℤ, IsTrue, take}
use Rattle.std.specs.List.{count_by}
use Rattle.std.specs.Ordering.{int_eq}
use Rattle.crush.specs.Slots.{marks}
use Rattle.crush.specs.WellFormed.{is_known}
use Rattle.crush.proofs.met.mark.Given as goal

-- the marks have grown by the items so far
abbrev pub invariant-loop-item : goal.invariant-loop-item
invariant-loop-item l = (id : ℤ) → IsTrue (is_known l.buckets 4096 id) → marks l.buckets l.seen id ≡ marks l.buckets l.initial.seen id + count_by (λ i. int_eq i.id id) (take l.item-index l.items)
