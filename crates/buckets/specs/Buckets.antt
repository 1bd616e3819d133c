-- Which buckets a forest may have, each looked at by itself (CRUSH paper, SC 2006, section 3.3; Ceph, crush.h and
-- builder.c).
use Rattle.std.specs.Prelude.{ℕ, ◌<◌, ◌≤◌, ◌^◌, ◌&&◌, ℤ, pos, int_le, int_lt, nat_le, nat_lt, ◌==◌, Bool, List, length}
use Rattle.std.specs.List.{list_all}
use Rattle.buckets.specs.declared.bucket.Item.{Item}
use Rattle.buckets.specs.declared.bucket.Bucket.{Bucket}
use Rattle.buckets.specs.declared.bucket.BucketKind.{BucketKind}
use Rattle.buckets.specs.declared.bucket.BucketKind.TheVariants.{Uniform, List as InList, Tree, Straw2}
use Rattle.buckets.specs.Items.{weight_of}
use Rattle.buckets.specs.Kinds.{most_items}
use Rattle.buckets.specs.Limits.{is_within, lowest_bucket, max_level, max_items, max_devices, plain_devices}

-- an id that a bucket may have: from -1 down to the lowest
abbrev pub is_bucket_id : ℤ → Bool
is_bucket_id id = int_le lowest_bucket id && int_lt id (pos 0)

-- an item within the limits: an id that a bucket or a device may have, of a weight from 1 on; its type ends the weight
-- at 4,294,967,295
abbrev pub item_limits_ok : Item → Bool
item_limits_ok i = int_le lowest_bucket i.id && int_lt i.id (pos max_devices) && nat_lt 0 i.weight

-- a bucket within the limits: of a type from 1 to the highest, with items, no more than the most of its kind
abbrev pub bucket_limits_ok : Bucket → Bool
bucket_limits_ok b =
    is_bucket_id b.id && is_within 1 max_level b.level && is_within 1 (most_items b.kind) (length b.items)
    && list_all item_limits_ok b.items

-- a bucket as plain clusters have them: of no more items than one of another kind than straw2, each with an id below
-- the most devices of a plain cluster
abbrev pub is_plain_bucket : Bucket → Bool
is_plain_bucket b = nat_le (length b.items) max_items && list_all (λ i. int_lt i.id (pos plain_devices)) b.items

-- no two items weigh differently
abbrev pub is_even : List Item → Bool
is_even items = list_all (λ i. list_all (λ j. i.weight == j.weight) items) items

-- weights that add up to a word, in a uniform bucket all the same
abbrev pub weights_ok : BucketKind → List Item → Bool
weights_ok Uniform items = nat_lt (weight_of items) (2 ^ 32) && is_even items
weights_ok InList items = nat_lt (weight_of items) (2 ^ 32)
weights_ok Tree items = nat_lt (weight_of items) (2 ^ 32)
weights_ok Straw2 items = nat_lt (weight_of items) (2 ^ 32)

-- a bucket from which an item can be picked: it has items, no more than the most, whose weights add up to a word
pub record IsPickable (b : Bucket) : Type 0 where
  pub some : 0 < length b.items
  pub few : length b.items ≤ most_items b.kind
  pub weighs : 0 < weight_of b.items
  pub fits : weight_of b.items < 2 ^ 32
