-- The picks that a run of a rule remembers.
use Rattle.std.specs.Prelude.{◌≡◌, ℕ, Some, None, IsTrue, slice_index_or}
use Rattle.buckets.specs.declared.bucket.Bucket.{Bucket}
use Rattle.crush.specs.declared.remembered.Remembered.{Remembered}
use Rattle.crush.specs.declared.remembered.Picks.{Picks}
use Rattle.crush.specs.Forest.{bucket_at}
use Rattle.buckets.specs.Pick.{pick_of}
use Rattle.crush.specs.World.{World}

-- the item is the one that the bucket of that id picks with that replica number
abbrev pub IsPick : World → Remembered → Type 0
IsPick w k = (b : Bucket) → bucket_at w.buckets k.bucket ≡ Some b → k.item ≡ pick_of b w.x k.r

-- what is remembered are picks of these buckets for this input
unfoldable pub Remembers : World → Picks → Type 0
Remembers w p =
    IsTrue p.is_on → (place : ℕ) (k : Remembered) → slice_index_or p.by_place.items place None ≡ Some k → IsPick w k
