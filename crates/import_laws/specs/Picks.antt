-- Items of weight 0.
use Rattle.std.specs.Prelude.{◌≡◌, ℕ, List}
use Rattle.buckets.specs.Pick.{pick_of}
use Rattle.cephmap.specs.declared.bucket.Bucket.{Bucket as OwnBucket}
use Rattle.cephmap.specs.declared.crush.WeightSet.{WeightSet}
use Rattle.maptypes.specs.Values.{bucket_of}
use Rattle.cephimport.specs.Buckets.{imported_bucket}
use Rattle.import_laws.specs.Own.{own_bucket}

-- a bucket of the map picks what the cluster's own picks, items of weight 0 and all
abbrev pub PickAlike : Type 0
PickAlike = (sets : List WeightSet) (b : OwnBucket) (x r : ℕ) →
    pick_of (own_bucket sets b) x r ≡ pick_of (bucket_of (imported_bucket sets b)) x r
