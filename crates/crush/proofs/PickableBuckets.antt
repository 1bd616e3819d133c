-- Each bucket of a forest can be picked from.
use Rattle.std.proofs.Common.{◌≡◌, ℕ, ◌<◌, ◌≤◌, ◌^◌, Bool, true, List, length, get_or, position, find, Bor, Option, IfSome, Some, None, sym, nat_lt, ℤ, pos, refl, arith}
use Rattle.std.specs.Prelude.{int_le, int_lt}
use Rattle.std.specs.List.{list_all}
use Rattle.std.specs.Option.{option_copied}
use Rattle.std.specs.Ordering.{int_eq}
use Rattle.std.proofs.lemmas.Bool.Decides.{nat_tests, Decides-int_eq}
use Rattle.std.proofs.lemmas.Int.{ints}
use Rattle.std.proofs.lemmas.Bool.{and_parts, ltb-true}
use Rattle.std.proofs.lemmas.Option.{gets}
use Rattle.std.proofs.lemmas.List.Folds.{find_at}
use Rattle.std.proofs.lemmas.List.Sums.{get_or-le-sum_by}
use Rattle.buckets.specs.declared.bucket.Bucket.{Bucket}
use Rattle.buckets.specs.declared.bucket.BucketKind.{BucketKind}
use Rattle.buckets.specs.declared.bucket.BucketKind.TheVariants.{Uniform, List as InList, Tree, Straw2}
use Rattle.buckets.specs.declared.bucket.Item.{Item}
use Rattle.crush.specs.Forest.{bucket_at}
use Rattle.buckets.specs.Items.{weight_of}
use Rattle.buckets.specs.Kinds.{most_items}
use Rattle.buckets.specs.Buckets.{IsPickable, item_limits_ok, bucket_limits_ok, weights_ok}
use Rattle.crush.specs.WellFormed.{IsForest}
use Rattle.buckets.specs.Limits.{is_within}
use Rattle.keylist.proofs.Counts.{find-place}
use Rattle.keylist.proofs.Each.{list_all-at}

-- the element at the first place that passes is the one found
pub found : {X : Type 0} (p : X → Bool) (xs : List X) (k : ℕ) (x : X) → Some k ≡ position p xs → x ≡ get_or xs k x → find p xs ≡ Some x
found p xs k x e here = grind (arith, nat_tests, gets, find_at p xs)

-- and where no place passes none is found
pub not_found : {X : Type 0} (p : X → Bool) (xs : List X) → None ≡ position p xs → find p xs ≡ None
not_found p xs e = grind (arith, nat_tests, gets, find_at p xs)

-- what the limits say of a bucket
has_items : (b : Bucket) → bucket_limits_ok b ≡ true → is_within 1 (most_items b.kind) (length b.items) ≡ true
has_items b ok = (and_parts _ _ (and_parts _ _ ok).0).1

-- and of its items
items_within : (b : Bucket) → bucket_limits_ok b ≡ true → list_all item_limits_ok b.items ≡ true
items_within b ok = (and_parts _ _ ok).1

-- weights that are lawful add up to a word
weighs_fit : (kind : BucketKind) (items : List Item) → weights_ok kind items ≡ true → nat_lt (weight_of items) (2 ^ 32) ≡ true
weighs_fit Uniform items ok = (and_parts _ _ ok).0
weighs_fit InList items ok = ok
weighs_fit Tree items ok = ok
weighs_fit Straw2 items ok = ok

-- an item within the limits weighs something
item_weighs : (i : Item) → item_limits_ok i ≡ true → 0 < i.weight
item_weighs i ok = ltb-true 0 i.weight (and_parts _ _ ok).1

-- a bucket within the limits, whose weights add up to a word
pickable : (b : Bucket) → bucket_limits_ok b ≡ true → weights_ok b.kind b.items ≡ true → IsPickable b
pickable b ok fits =
    let count : (0 < length b.items) × (length b.items ≤ most_items b.kind) = grind (arith, nat_tests, has_items b ok) in
    let heavy : 0 < (get_or b.items 0 no_item).weight = item_weighs (get_or b.items 0 no_item) (list_all-at item_limits_ok b.items 0 no_item count.0 (items_within b ok)) in
    record {
      some = count.0;
      few = count.1;
      weighs = omega (arith, get_or-le-sum_by (λ (i : Item). i.weight) b.items 0 no_item count.0);
      fits = ltb-true _ _ (weighs_fit b.kind b.items fits);
    }
  where
    no_item : Item
    no_item = record { id = pos 0; weight = 0 }

-- each bucket of a forest
IsForest-pickable : (buckets : List Bucket) → IsForest buckets → (k : ℕ) (b : Bucket) → k < length buckets → b ≡ get_or buckets k b → IsPickable b
IsForest-pickable buckets forest k b in_range here =
    let within = list_all-at bucket_limits_ok buckets k b in_range (and_parts _ _ forest.limits).1 in
    let weighs = list_all-at (λ c. weights_ok c.kind c.items) buckets k b in_range (and_parts _ _ forest.lawful).1 in
    rw here (pickable (get_or buckets k b) within weighs)

-- what a look-up in a forest finds can be picked from
pub bucket_at-pickable : (buckets : List Bucket) → IsForest buckets → (id : ℤ) (b : Bucket) → bucket_at buckets id ≡ Some b → IsPickable b
bucket_at-pickable buckets forest id b e =
    let place = find-place (λ c. int_eq c.id id) buckets b e in
    IsForest-pickable buckets forest place.0 b place.1 (sym place.2)

-- the same of a look-up as a call answers it
pub IfSome-pickable : (buckets : List Bucket) → IsForest buckets → (id : ℤ) (r : Option (Bor Bucket)) → option_copied r ≡ bucket_at buckets id → IfSome r (λ b. IsPickable b.now)
IfSome-pickable buckets forest id None e = tt
IfSome-pickable buckets forest id (Some b) e = bucket_at-pickable buckets forest id b.now (sym e)

-- a bucket's id is no device's
below_device : (own id shown : ℤ) → int_lt own (pos 0) ≡ true → own ≡ id → shown ≡ id → int_le (pos 0) shown ≡ true → ⊥
below_device own id shown below same passed device = grind (arith, ints, nat_tests)

-- no bucket has the id of a device, passed on as `shown`
pub device-has_none : (buckets : List Bucket) → IsForest buckets → (id shown : ℤ) → shown ≡ id → int_le (pos 0) shown ≡ true → bucket_at buckets id ≡ None
device-has_none buckets forest id shown passed device = by_case (bucket_at buckets id) refl
  where
    by_case : (o : Option Bucket) → bucket_at buckets id ≡ o → o ≡ None
    by_case None e = refl
    by_case (Some b) e =
        let place = find-place (λ c. int_eq c.id id) buckets b e in
        let within : bucket_limits_ok b ≡ true = rw place.2 at (list_all-at bucket_limits_ok buckets place.0 b place.1 (and_parts _ _ forest.limits).1) in
        let below : int_lt b.id (pos 0) ≡ true = (and_parts _ _ (and_parts _ _ (and_parts _ _ (and_parts _ _ within).0).0).0).1 in
        let same : b.id ≡ id = (Decides-int_eq b.id id).0 place.3 in
        absurd (below_device b.id id shown below same passed device)
