-- Which buckets keep a map out.
use Rattle.std.specs.Prelude.{ℕ, ◌==◌, ℤ, Bool, true, false, not, ◌&&◌, List, count_by}
use Rattle.std.specs.Ordering.{int_eq}
use Rattle.std.specs.List.{list_any, list_all}
use Rattle.std.specs.Option.{option_map_or}
use Rattle.cephmap.specs.declared.map.CephMap.{CephMap}
use Rattle.cephmap.specs.declared.map.Osds.{Osds}
use Rattle.cephmap.specs.declared.crush.Crush.{Crush}
use Rattle.cephmap.specs.declared.crush.WeightSet.{WeightSet}
use Rattle.cephmap.specs.declared.bucket.Bucket.{Bucket}
use Rattle.cephmap.specs.declared.bucket.Slot.{Slot}
use Rattle.cephmap.specs.declared.bucket.Weights.{Weights}
use Rattle.cephmap.specs.declared.bucket.Weights.TheVariants as weights
use Rattle.mapparts.specs.declared.parts.BucketPart.{BucketPart}
use Rattle.mapparts.specs.declared.parts.ItemPart.{ItemPart}
use Rattle.cephimport.specs.declared.fit_buckets.BucketTest.{BucketTest}
use Rattle.cephimport.specs.declared.fit_buckets.BucketTest.TheVariants as tests
use Rattle.cephimport.specs.Uses.{has_pools}
use Rattle.cephimport.specs.Osds.{is_known_osd}
use Rattle.cephimport.specs.Exceptions.{word_in}
use Rattle.cephimport.specs.Reach.{lists_item}
use Rattle.cephimport.specs.WeightSets.{set_fits}

-- a bucket is among those in use
abbrev pub is_kept : List BucketPart → ℤ → Bool
is_kept kept id = list_any (λ b. int_eq b.id id) kept

-- these are the weights of a straw bucket
abbrev pub is_straw : Weights → Bool
is_straw (weights.Straw _) = true
is_straw _ = false

-- the compat weight set does not fit a bucket, which has these weights
abbrev pub is_misfit_of : Weights → List WeightSet → Bucket → Bool
is_misfit_of (weights.Straw2 _) sets b = not (set_fits sets b.id b.items)
is_misfit_of _ sets b = false

-- the compat weight set does not fit a straw2 bucket; others do not look at it
abbrev pub is_misfit : List WeightSet → Bucket → Bool
is_misfit sets b = is_misfit_of b.weights sets b

-- a straw bucket, one that does not hash by rjenkins, or one that the compat weight set does not fit
abbrev pub fails : BucketTest → List WeightSet → Bucket → Bool
fails tests.Kind sets b = is_straw b.weights
fails tests.Hash sets b = not (b.hash == 0)
fails tests.WeightSet sets b = is_misfit sets b

-- the bucket of a slot is in use and fails a test
unfoldable pub bucket_slot_fails : BucketTest → List WeightSet → List BucketPart → Slot Bucket → Bool
bucket_slot_fails test sets kept slot = option_map_or (λ b. fails test sets b && is_kept kept b.id) slot.holds false

-- the bucket of some slot is in use and fails a test
abbrev pub bucket_fails_in : BucketTest → List WeightSet → List BucketPart → List (Slot Bucket) → Bool
bucket_fails_in test sets kept slots = list_any (bucket_slot_fails test sets kept) slots

-- some bucket in use fails a test
abbrev pub some_bucket_fails : BucketTest → Crush → List BucketPart → Bool
some_bucket_fails test c kept = bucket_fails_in test c.weight_sets kept c.buckets

-- in how many buckets an item stands, and how often in a bucket
abbrev pub holder_count : List BucketPart → ℤ → ℕ
holder_count kept id = count_by (λ b. lists_item b id) kept

-- how often an item stands in a bucket
abbrev pub times_among : List ItemPart → ℤ → ℕ
times_among items id = count_by (λ i. int_eq i.id id) items

-- an item stands once in a bucket that has it, and in no other one
unfoldable pub is_alone : List BucketPart → List ItemPart → ℤ → Bool
is_alone kept items id = holder_count kept id == 1 && times_among items id == 1

-- each item of a bucket stands once
abbrev pub stands_once : List BucketPart → List ItemPart → Bool
stands_once kept items = list_all (λ i. is_alone kept items i.id) items

-- each item stands once: else rules take it from several trees, for each of which there would be a map
abbrev pub stand_once : List BucketPart → Bool
stand_once kept = list_all (λ b. stands_once kept b.items) kept

-- a device that is no OSD of the cluster
unfoldable pub is_unknown : Osds → ℤ → Bool
is_unknown osds id = option_map_or (λ n. not (is_known_osd osds n)) (word_in id) false

-- some item of a bucket is a device that is no OSD of the cluster
abbrev pub has_unknown : Osds → List ItemPart → Bool
has_unknown osds items = list_any (λ i. is_unknown osds i.id) items

-- some bucket in use has such a device
abbrev pub some_unknown : Osds → List BucketPart → Bool
some_unknown osds kept = list_any (λ b. has_unknown osds b.items) kept

-- some bucket in use has such a device, where there are pools
unfoldable pub any_unknown : CephMap → List BucketPart → Bool
any_unknown m kept = has_pools m.pools && some_unknown m.osds kept
