-- Where the bucket of each item stands in a forest.
use Rattle.std.specs.Prelude.{◌≡◌, ℕ, ℤ, List, IsTrue, slice_index, slice_get}
use Rattle.std.specs.List.{find}
use Rattle.buckets.specs.declared.bucket.Bucket.{Bucket}
use Rattle.buckets.specs.Limits.{max_devices}
use Rattle.crush.specs.Paths.{has_item}
use Rattle.crush.specs.Slots.{slot}
use Rattle.crush.specs.WellFormed.{is_known}

-- at each item's number the place of the bucket that has it, and one past the last where none has it
unfoldable pub AreParents : List Bucket → List ℕ → Type 0
AreParents buckets places =
    (id : ℤ) → IsTrue (is_known buckets max_devices id)
    → slice_get buckets (slice_index places (slot buckets id)) ≡ find (has_item id) buckets
