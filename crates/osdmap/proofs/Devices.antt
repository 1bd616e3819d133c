-- A forest whose devices are all below a number is one over so many devices.
use Rattle.std.proofs.Common.{◌≡◌, ℕ, true, ℤ, pos, negsuc, List, arith}
use Rattle.std.specs.Prelude.{int_lt}
use Rattle.std.specs.List.{list_all}
use Rattle.buckets.specs.declared.bucket.Item.{Item}
use Rattle.buckets.specs.declared.bucket.Bucket.{Bucket}
use Rattle.crush.specs.WellFormed.{is_known, is_item_ok, has_items_below, forest_ok, IsForest}
use Rattle.keylist.proofs.Each.{all_both}
use Rattle.osdmap.specs.Changes.{has_devices_below}

-- an id that is known over 4,096 devices and below a bound is known over so many
known : (buckets : List Bucket) (n : ℕ) (id : ℤ) → is_known buckets 4096 id ≡ true → int_lt id (pos n) ≡ true → is_known buckets n id ≡ true
known buckets n (pos k) here below = below
known buckets n (negsuc k) here below = here

-- so an item is right over so many
item_ok : (buckets : List Bucket) (n level : ℕ) (i : Item) → is_item_ok buckets 4096 level i ≡ true → int_lt i.id (pos n) ≡ true → is_item_ok buckets n level i ≡ true
item_ok buckets n level i ok below = grind (arith, ok, known buckets n i.id, below)

-- and a bucket
bucket_ok : (buckets : List Bucket) (n : ℕ) (b : Bucket) → list_all (is_item_ok buckets 4096 b.level) b.items ≡ true → list_all (λ i. int_lt i.id (pos n)) b.items ≡ true
    → list_all (is_item_ok buckets n b.level) b.items ≡ true
bucket_ok buckets n b ok below = all_both _ _ _ (item_ok buckets n b.level) b.items ok below

-- a forest whose devices are below a bound is one over so many devices
pub over_devices : (buckets : List Bucket) (n : ℕ) → IsForest buckets → has_devices_below n buckets ≡ true → forest_ok buckets n ≡ true
unfolding has_devices_below
over_devices buckets n forest below =
    let ok : has_items_below buckets 4096 ≡ true = grind (arith, forest.lawful) in
    let items : has_items_below buckets n ≡ true = all_both _ _ _ (bucket_ok buckets n) buckets ok below in
    grind (arith, forest.lawful, items)
