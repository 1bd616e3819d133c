-- Buckets as a map states them.
use Rattle.std.specs.Prelude.{ℕ, ◌+◌, ◌*◌, ◌==◌, ℤ, pos, Bool, true, false, ◌&&◌, nat_lt, List, [], ◌∷◌, length, Option, Some, None, slice_get, unwrap_or, if◌then◌else◌}
use Rattle.std.specs.List.{filter_map, enumerate_from}
use Rattle.std.specs.Option.{option_map, option_map_or}
use Rattle.buckets.specs.declared.bucket.BucketKind.{BucketKind}
use Rattle.buckets.specs.declared.bucket.BucketKind.TheVariants as kinds
use Rattle.cephmap.specs.declared.crush.Crush.{Crush}
use Rattle.cephmap.specs.declared.crush.WeightSet.{WeightSet}
use Rattle.cephmap.specs.declared.bucket.Bucket.{Bucket}
use Rattle.cephmap.specs.declared.bucket.Slot.{Slot}
use Rattle.cephmap.specs.declared.bucket.Weighed.{Weighed}
use Rattle.cephmap.specs.declared.bucket.Weights.{Weights}
use Rattle.cephmap.specs.declared.bucket.Weights.TheVariants.{Uniform, List as Listed, Tree, Straw, Straw2}
use Rattle.mapparts.specs.declared.parts.BucketPart.{BucketPart}
use Rattle.mapparts.specs.declared.parts.ItemPart.{ItemPart}
use Rattle.cephimport.specs.WeightSets.{set_weight}

-- how a bucket picks; a map with a straw bucket in use stays out
abbrev pub kind_by_weights : Weights → BucketKind
kind_by_weights (Uniform _) = kinds.Uniform
kind_by_weights (Listed _) = kinds.List
kind_by_weights (Tree _) = kinds.Tree
kind_by_weights (Straw _) = kinds.Straw2
kind_by_weights (Straw2 _) = kinds.Straw2

-- a bucket with these weights is a straw2 bucket in the map
abbrev pub is_straw2 : Weights → Bool
is_straw2 (Uniform _) = false
is_straw2 (Listed _) = false
is_straw2 (Tree _) = false
is_straw2 (Straw _) = true
is_straw2 (Straw2 _) = true

-- the weight of the item at a place, 0 where it has none. A tree has at most 255 nodes, and items in every second.
abbrev pub weight_at : Weights → ℕ → ℕ
weight_at (Uniform w) i = w
weight_at (Listed ws) i = option_map_or (λ w. w.weight) (slice_get ws i) 0
weight_at (Tree nodes) i = if nat_lt i 128 then unwrap_or (slice_get nodes (2 * i + 1)) 0 else 0
weight_at (Straw ws) i = option_map_or (λ w. w.weight) (slice_get ws i) 0
weight_at (Straw2 ws) i = unwrap_or (slice_get ws i) 0

-- the weight by which a bucket picks it: its own, or of a straw2 bucket that of the compat weight set
unfoldable pub weight_in_force : List WeightSet → Bucket → ℕ → ℕ
weight_in_force sets b i =
    if is_straw2 b.weights then unwrap_or (set_weight sets b.id b.items i) (weight_at b.weights i)
    else weight_at b.weights i

-- an item of weight 0 draws the least number in a straw2 bucket, so it is never picked where another weighs more
unfoldable pub held_item : List WeightSet → Bucket → ℕ → ℤ → Option ItemPart
held_item sets b i id =
    if weight_in_force sets b i == 0 && is_straw2 b.weights then None
    else Some (record { id = id; weight = pos (weight_in_force sets b i) })

-- the items that a bucket holds, each with its weight, in their order
abbrev pub weighing_of : List WeightSet → Bucket → List ℤ → List ItemPart
weighing_of sets b ids = filter_map (λ p. held_item sets b p.0 p.1) (enumerate_from 0 ids)

-- where all weigh 0 the first one always is picked, and it stays at the least weight
abbrev pub least : List ℤ → List ItemPart
least [] = []
least (id ∷ ids) = record { id = id; weight = pos 1 } ∷ []

-- the items of a bucket that a map has
unfoldable pub items_held : List WeightSet → Bucket → List ItemPart
items_held sets b =
    if length (weighing_of sets b b.items) == 0 then least b.items else weighing_of sets b b.items

-- a bucket of the cluster as one of the map
unfoldable pub imported_bucket : List WeightSet → Bucket → BucketPart
imported_bucket sets b = record {
  id = b.id;
  level = pos b.level;
  kind = kind_by_weights b.weights;
  items = items_held sets b;
}

-- the bucket of a slot, where it holds one
abbrev pub slot_part : List WeightSet → Slot Bucket → Option BucketPart
slot_part sets s = option_map (imported_bucket sets) s.holds

-- the buckets of all slots
abbrev pub slot_parts : List WeightSet → List (Slot Bucket) → List BucketPart
slot_parts sets slots = filter_map (slot_part sets) slots

-- all buckets of a CRUSH map, also those that are not in use
unfoldable pub all_parts : Crush → List BucketPart
all_parts c = slot_parts c.weight_sets c.buckets
