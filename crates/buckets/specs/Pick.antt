-- The item that a bucket picks for an input x and a replica number r (CRUSH paper, section 3.4; Ceph, mapper.c,
-- crush_bucket_choose).
use Rattle.std.specs.Prelude.{◌≡◌, ℕ, ◌<◌, ℤ, pos, List, length, slice_index_or}
use Rattle.buckets.specs.declared.bucket.Bucket.{Bucket}
use Rattle.buckets.specs.declared.bucket.BucketKind.{BucketKind}
use Rattle.buckets.specs.declared.bucket.BucketKind.TheVariants.{Uniform, List as InList, Tree as InTree, Straw2}
use Rattle.buckets.specs.Items.{word, item_at}
use Rattle.buckets.specs.Uniform.{uniform_place}
use Rattle.buckets.specs.Listed.{list_place}
use Rattle.buckets.specs.Straw2.{straw2_place}
use Rattle.buckets.specs.Tree.{draw_at, tree_place, height_of}

-- the place that a bucket picks, by its kind
unfoldable pub place_by : BucketKind → Bucket → ℕ → ℕ → ℕ
place_by Uniform b x r = uniform_place x (word b.id) (length b.items) r
place_by InList b x r = list_place x (word b.id) r b.items
place_by InTree b x r = tree_place (draw_at x (word b.id) r) b.items (height_of (length b.items)) 0
place_by Straw2 b x r = straw2_place x r b.items

-- the place that a bucket picks
abbrev pub place_picked : Bucket → ℕ → ℕ → ℕ
place_picked b x r = place_by b.kind b x r

-- the item that a bucket picks
unfoldable pub pick_of : Bucket → ℕ → ℕ → ℤ
pick_of b x r = (item_at b.items (place_picked b x r)).id

-- what a bucket picks for the replica numbers 0 to 3
abbrev pub AreFirstPicks : Bucket → ℕ → List ℤ → Type 0
AreFirstPicks b x picks = (r : ℕ) → r < 4 → slice_index_or picks r (pos 0) ≡ pick_of b x r
