use Rattle.std.proofs.Common.{◌≡◌, ◌<◌, ℕ, pos, length, drop, find, slice_index}
use Rattle.std.specs.List.{flat_map}
use Rattle.std.specs.Option.{option_map_or}
use Rattle.std.specs.Ordering.{int_eq}
use Rattle.balancer.proofs.weights.item_weights.Given as goal

-- the weights in the buckets so far, which are the last, are entered
abbrev pub invariant-loop-place : goal.invariant-loop-place
invariant-loop-place l = ((osd : ℕ) → osd < l.count → slice_index l.weights.items osd ≡ option_map_or (λ i. i.weight) (find (λ i. int_eq i.id (pos osd)) (flat_map (λ b. b.items) (drop l.place l.buckets))) 0) × (length l.weights.items ≡ l.count)
