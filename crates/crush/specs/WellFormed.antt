-- Which lists of buckets are forests: the limits, and when a forest is well formed (CRUSH paper, SC 2006, section 3.3;
-- Ceph, crush.h and builder.c).
use Rattle.std.specs.Prelude.{ℕ, Bool, IsTrue, ◌&&◌, ◌<ℤ◌, ◌≤ℤ◌, ℤ, pos, negsuc, nat_le, nat_lt, ◌==◌, List, length, count_by, if◌then◌else◌, Option, Some, is_some}
use Rattle.std.specs.Ordering.{int_eq}
use Rattle.std.specs.List.{sum_by, list_all, AllPairs}
use Rattle.buckets.specs.declared.bucket.Item.{Item}
use Rattle.buckets.specs.declared.bucket.Bucket.{Bucket}
use Rattle.refusal.specs.declared.refused.Refusal.{Refusal}
use Rattle.refusal.specs.declared.refused.Refusal.TheVariants.{BadLimit, BadForest}
use Rattle.refusal.specs.Outcomes.{refused_unless}
use Rattle.crush.specs.Forest.{bucket_at, level_of}
use Rattle.buckets.specs.Buckets.{bucket_limits_ok, is_plain_bucket, weights_ok}
use Rattle.buckets.specs.Limits.{is_within, max_devices, plain_devices}
use Rattle.crush.specs.Limits.{max_buckets, plain_buckets}

-- a forest within the limits: buckets, no more than the most, over devices, no more than the most
abbrev pub forest_limits_ok : List Bucket → ℕ → Bool
forest_limits_ok buckets max_osd =
    is_within 1 max_buckets (length buckets) && is_within 1 max_devices max_osd && list_all bucket_limits_ok buckets

-- how many buckets have an id
abbrev pub buckets_with : List Bucket → ℤ → ℕ
buckets_with buckets id = count_by (λ b. int_eq b.id id) buckets

-- how many times an item stands in the forest
abbrev pub times_in : List Bucket → ℤ → ℕ
times_in buckets id = sum_by (λ b. count_by (λ i. int_eq i.id id) b.items) buckets

-- no two buckets have the same id
abbrev pub has_own_ids : List Bucket → Bool
has_own_ids buckets = list_all (λ b. buckets_with buckets b.id == 1) buckets

-- a device below max_osd, or a bucket of the forest
abbrev pub is_known : List Bucket → ℕ → ℤ → Bool
is_known buckets max_osd (pos n) = nat_lt n max_osd
is_known buckets max_osd (negsuc n) = is_some (bucket_at buckets (negsuc n))

-- an item that is known, and of a type below that of its bucket
abbrev pub is_item_ok : List Bucket → ℕ → ℕ → Item → Bool
is_item_ok buckets max_osd level i = is_known buckets max_osd i.id && nat_lt (level_of buckets i.id) level

-- each item is known, and its type is below that of its bucket
abbrev pub has_items_below : List Bucket → ℕ → Bool
has_items_below buckets max_osd = list_all (λ b. list_all (is_item_ok buckets max_osd b.level) b.items) buckets

-- no item stands in the forest twice
abbrev pub has_items_once : List Bucket → Bool
has_items_once buckets = list_all (λ b. list_all (λ i. times_in buckets i.id == 1) b.items) buckets

-- a well-formed forest
abbrev pub forest_ok : List Bucket → ℕ → Bool
forest_ok buckets max_osd =
    has_own_ids buckets && has_items_below buckets max_osd && has_items_once buckets
    && list_all (λ b. weights_ok b.kind b.items) buckets

-- the ids fall from each bucket to the next
abbrev pub IsDescending : List Bucket → Type 0
IsDescending buckets = AllPairs (λ a b. b.id <ℤ a.id) buckets

-- the ids do not rise from any bucket to a later one: an id may stand twice
abbrev pub IsNotAscending : List Bucket → Type 0
IsNotAscending buckets = AllPairs (λ a b. b.id ≤ℤ a.id) buckets

-- what each forest is, over whatever number of devices
pub record IsForest (buckets : List Bucket) : Type 0 where
  pub descending : IsDescending buckets
  pub limits : IsTrue (forest_limits_ok buckets max_devices)
  pub lawful : IsTrue (forest_ok buckets max_devices)

-- a forest as plain clusters have them: no more buckets, each of them such a bucket, and no more devices
abbrev pub is_plain_forest : List Bucket → ℕ → Bool
is_plain_forest buckets max_osd =
    nat_le (length buckets) plain_buckets && nat_le max_osd plain_devices && list_all is_plain_bucket buckets

-- why a list of buckets is no forest: a limit first
abbrev pub forest_fault : List Bucket → ℕ → Option Refusal
forest_fault buckets max_osd =
    if forest_limits_ok buckets max_osd then refused_unless (forest_ok buckets max_osd) BadForest else Some BadLimit

-- why it is none of a plain cluster: a limit of those first
abbrev pub plain_forest_fault : List Bucket → ℕ → Option Refusal
plain_forest_fault buckets max_osd =
    if is_plain_forest buckets max_osd then forest_fault buckets max_osd else Some BadLimit
