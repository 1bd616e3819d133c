-- What the limits of a forest say, and more devices than there are.
use Rattle.std.proofs.Common.{◌≡◌, ℕ, ◌<◌, ◌≤◌, true, ◌&&◌, nat_lt, List, length, get_or, ℤ, pos, negsuc, refl, arith}
use Rattle.std.specs.List.{list_all}
use Rattle.std.proofs.lemmas.Bool.{and_parts, and_from, ltb-true, lt-ltb}
use Rattle.std.proofs.lemmas.Bool.Decides.{nat_tests}
use Rattle.buckets.specs.declared.bucket.Bucket.{Bucket}
use Rattle.crush.specs.Forest.{level_of}
use Rattle.buckets.specs.Kinds.{most_items}
use Rattle.crush.specs.WellFormed.{forest_limits_ok, is_known, has_items_below}
use Rattle.buckets.specs.Limits.{is_within}
use Rattle.buckets.specs.Buckets.{bucket_limits_ok}
use Rattle.crush.proofs.ItemMarks.{no_item}
use Rattle.crush.proofs.IdSearches.{no_bucket}
use Rattle.keylist.proofs.Each.{list_all-at, list_all-from}

-- what a test of two limits says
within : (low high n : ℕ) → is_within low high n ≡ true → (low ≤ n) × (n ≤ high)
within low high n ok = grind (arith, nat_tests)

-- how many buckets there are
pub limits-buckets : (buckets : List Bucket) (max_osd : ℕ) → forest_limits_ok buckets max_osd ≡ true → length buckets ≤ 4096
limits-buckets buckets max_osd ok = (within 1 4096 _ (and_parts _ _ (and_parts _ _ ok).0).0).1

-- how many devices there are
pub limits-devices : (buckets : List Bucket) (max_osd : ℕ) → forest_limits_ok buckets max_osd ≡ true → max_osd ≤ 4096
limits-devices buckets max_osd ok = (within 1 4096 _ (and_parts _ _ (and_parts _ _ ok).0).1).1

-- each bucket is within the limits
pub limits-each : (buckets : List Bucket) (max_osd : ℕ) → forest_limits_ok buckets max_osd ≡ true → list_all bucket_limits_ok buckets ≡ true
limits-each buckets max_osd ok = (and_parts _ _ ok).1

-- how many items a bucket has
pub limits-items : (b : Bucket) → bucket_limits_ok b ≡ true → (0 < length b.items) × (length b.items ≤ most_items b.kind)
limits-items b ok = let parts = within 1 (most_items b.kind) (length b.items) (and_parts _ _ (and_parts _ _ ok).0).1 in (omega arith, parts.1)

-- what is known below fewer devices is known below more
is_known-more : (buckets : List Bucket) (few many : ℕ) → few ≤ many → (id : ℤ) → is_known buckets few id ≡ true → is_known buckets many id ≡ true
is_known-more buckets few many le (pos n) known = lt-ltb n many (omega (arith, ltb-true n few known))
is_known-more buckets few many le (negsuc n) known = known

-- so are items below their buckets
pub has_items_below-more : (buckets : List Bucket) (few many : ℕ) → few ≤ many → has_items_below buckets few ≡ true → has_items_below buckets many ≡ true
has_items_below-more buckets few many le below =
    list_all-from _ buckets no_bucket (λ k k_in.
    let bucket = get_or buckets k no_bucket in
    let passes = list_all-at (λ b. list_all (λ i. is_known buckets few i.id && nat_lt (level_of buckets i.id) b.level) b.items) buckets k no_bucket k_in below in
    list_all-from _ bucket.items no_item (λ j j_in.
    let item = get_or bucket.items j no_item in
    let both = and_parts (is_known buckets few item.id) (nat_lt (level_of buckets item.id) bucket.level) (list_all-at (λ i. is_known buckets few i.id && nat_lt (level_of buckets i.id) bucket.level) bucket.items j no_item j_in passes) in
    and_from _ _ (is_known-more buckets few many le item.id both.0) both.1))

-- and so are the limits
pub limits-most : (buckets : List Bucket) (max_osd : ℕ) → forest_limits_ok buckets max_osd ≡ true → forest_limits_ok buckets 4096 ≡ true
limits-most buckets max_osd ok =
    let count = is_within 1 4096 (length buckets) in
    let devices = is_within 1 4096 max_osd in
    let each = list_all bucket_limits_ok buckets in
    let outer = and_parts (count && devices) each ok in
    and_from (count && true) each (and_from count true (and_parts count devices outer.0).0 refl) outer.1

-- the type of a bucket is none above the highest
pub limits-level : (b : Bucket) → bucket_limits_ok b ≡ true → b.level ≤ 15
limits-level b ok = (within 1 15 b.level (and_parts _ _ (and_parts _ _ (and_parts _ _ ok).0).0).1).1
