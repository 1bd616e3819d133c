-- What stands in a bucket of a forest (CRUSH paper, section 3.3).
use Rattle.std.specs.Prelude.{◌≡◌, ◌<◌, ℤ, pos, negsuc, List, All, Some, MatchOption}
use Rattle.buckets.specs.declared.bucket.Bucket.{Bucket}
use Rattle.crush.specs.Forest.{bucket_at}
use Rattle.buckets.specs.Limits.{max_devices}
use Rattle.crush.specs.WellFormed.{IsForest}

-- the number of a device
abbrev pub IsDeviceNumber : ℤ → Type 0
IsDeviceNumber (pos n) = n < max_devices
IsDeviceNumber (negsuc n) = ⊥

-- each item of a bucket is a device, or a bucket of a type below that of its own
abbrev pub LeadsDown : List Bucket → Bucket → Type 0
LeadsDown buckets b =
    All (λ i. MatchOption (bucket_at buckets i.id) (IsDeviceNumber i.id) (λ c. c.level < b.level)) b.items

-- each bucket of a forest leads down
abbrev pub BucketsLeadDown : Type 0
BucketsLeadDown = (buckets : List Bucket) (id : ℤ) (b : Bucket) →
    IsForest buckets → bucket_at buckets id ≡ Some b → LeadsDown buckets b
