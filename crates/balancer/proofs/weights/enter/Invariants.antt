use Rattle.std.proofs.Common.{◌≡◌, ◌<◌, ℕ, pos, length, drop, find, slice_index}
use Rattle.std.specs.Option.{option_map_or}
use Rattle.std.specs.Ordering.{int_eq}
use Rattle.balancer.proofs.weights.enter.Given as goal

-- the weights of the items so far, which are the last, are entered
abbrev pub invariant-loop-place : goal.invariant-loop-place
invariant-loop-place l = ((osd : ℕ) → osd < length l.initial.weights.items → slice_index l.weights.items osd ≡ option_map_or (λ i. i.weight) (find (λ i. int_eq i.id (pos osd)) (drop l.place l.items)) (slice_index l.initial.weights.items osd)) × (length l.weights.items ≡ length l.initial.weights.items)
