-- The same buckets in another order make the same forest.
use Rattle.std.proofs.Common.{◌≡◌, ℕ, Bool, true, eqb, List, [], ◌∷◌, Option, Some, None, ℤ, pos, negsuc, IsPermutation, refl, sym, ap, ◌∙◌, inl, inr, arith}
use Rattle.std.specs.List.{list_all}
use Rattle.std.specs.Ordering.{int_cmp, int_eq, is_lt}
use Rattle.std.proofs.lemmas.Bool.{cases_Bool, eqb-true}
use Rattle.std.proofs.lemmas.Bool.Decides.{Decides-int_eq}
use Rattle.std.proofs.lemmas.Int.{ints}
use Rattle.std.proofs.lemmas.List.Sorted.{IsPermutation-sym, All-permutation, Contains-permutation, sum_by-IsPermutation, length_permutation, ranks_by, IsStrictWeakOrder-flip, sorted_far}
use Rattle.std.proofs.lemmas.List.Sums.{AllPass-from_list_all, list_all-from_AllPass}
use Rattle.std.specs.Cmp.{int_cmp_total}
use Rattle.std.specs.List.Sorted.{IsSortedBy}
use Rattle.buckets.specs.declared.bucket.Bucket.{Bucket}
use Rattle.crush.specs.Forest.{bucket_at}
use Rattle.crush.specs.WellFormed.{forest_limits_ok, buckets_with, times_in, has_own_ids, is_known, has_items_below, has_items_once, forest_ok, IsNotAscending}
use Rattle.buckets.specs.Buckets.{bucket_limits_ok, weights_ok}
use Rattle.keylist.proofs.Counts.{find-place, find-one}
use Rattle.keylist.proofs.Each.{list_all-at, same_tests}

-- a test of each element does not hang on the order
list_all-IsPermutation : {X : Type 0} (p : X → Bool) (xs ys : List X) → IsPermutation xs ys → list_all p ys ≡ list_all p xs
list_all-IsPermutation p xs ys moved =
    same_tests _ _
    (λ all. list_all-from_AllPass p xs (All-permutation (λ x. p x ≡ true) ys xs (IsPermutation-sym xs ys moved) (AllPass-from_list_all p ys all)))
    (λ all. list_all-from_AllPass p ys (All-permutation (λ x. p x ≡ true) xs ys moved (AllPass-from_list_all p xs all)))

-- nor does a test that is another one at no element
list_all-agree : {X : Type 0} (p q : X → Bool) → ((x : X) → p x ≡ q x) → (xs : List X) → list_all p xs ≡ list_all q xs
list_all-agree p q same [] = refl
list_all-agree p q same (x ∷ xs) = rw (same x, list_all-agree p q same xs)

-- a test of each element is nothing to their order
list_all-moved : {X : Type 0} (p q : X → Bool) → ((x : X) → p x ≡ q x) → (xs ys : List X) → IsPermutation xs ys → list_all p ys ≡ list_all q xs
list_all-moved p q same xs ys moved = list_all-agree p q same ys ∙ list_all-IsPermutation q xs ys moved

module _ (xs ys : List Bucket) (moved : IsPermutation xs ys) where
  pub limits-moved : (max_osd : ℕ) → forest_limits_ok ys max_osd ≡ forest_limits_ok xs max_osd
  limits-moved max_osd = rw (length_permutation xs ys moved, list_all-IsPermutation bucket_limits_ok xs ys moved)

  buckets_with-moved : (id : ℤ) → buckets_with ys id ≡ buckets_with xs id
  buckets_with-moved id = sum_by-IsPermutation _ xs ys moved

  times_in-moved : (id : ℤ) → times_in ys id ≡ times_in xs id
  times_in-moved id = sum_by-IsPermutation _ xs ys moved

  pub own_ids-moved : has_own_ids ys ≡ has_own_ids xs
  own_ids-moved = list_all-moved _ _ (λ b. ap (λ n. eqb n 1) (buckets_with-moved b.id)) xs ys moved

  once-moved : has_items_once ys ≡ has_items_once xs
  once-moved = list_all-moved _ _ (λ b. list_all-agree _ _ (λ i. ap (λ n. eqb n 1) (times_in-moved i.id)) b.items) xs ys moved

-- a bucket found in one order is found in the other, where it alone has its id
found-moved : (xs ys : List Bucket) → IsPermutation xs ys → has_own_ids xs ≡ true → (id : ℤ) (b : Bucket) → bucket_at ys id ≡ Some b → bucket_at xs id ≡ Some b
found-moved xs ys moved own id b found =
    let there = find-place (λ c. int_eq c.id id) ys b found in
    let here = Contains-permutation ys xs b (IsPermutation-sym xs ys moved) (there.0, there.1, there.2) in
    let alone = eqb-true _ _ (rw here.2 at (list_all-at (λ c. eqb (buckets_with xs c.id) 1) xs here.0 b here.1 own)) in
    let id_is : b.id ≡ id = (Decides-int_eq b.id id).0 there.3 in
    find-one (λ c. int_eq c.id id) xs here.0 b here.1 here.2 there.3 (omega (arith, rw id_is at alone))

-- so look-ups do not hang on the order
pub bucket_at-moved : (xs ys : List Bucket) → IsPermutation xs ys → has_own_ids xs ≡ true → (id : ℤ) → bucket_at ys id ≡ bucket_at xs id
bucket_at-moved xs ys moved own id = by_found (bucket_at ys id) (bucket_at xs id) (found-moved xs ys moved own id) (found-moved ys xs (IsPermutation-sym xs ys moved) (own_ids-moved xs ys moved ∙ own) id)
  where
    by_found : (o q : Option Bucket) → ((b : Bucket) → o ≡ Some b → q ≡ Some b) → ((b : Bucket) → q ≡ Some b → o ≡ Some b) → o ≡ q
    by_found None None there back = refl
    by_found None (Some b) there back = back b refl
    by_found (Some b) q there back = sym (there b refl)

module _ (xs ys : List Bucket) (moved : IsPermutation xs ys) (max_osd : ℕ) where
  known-moved : has_own_ids xs ≡ true → (id : ℤ) → is_known ys max_osd id ≡ is_known xs max_osd id
  known-moved own (pos n) = refl
  known-moved own (negsuc n) = rw (bucket_at-moved xs ys moved own (negsuc n))

  below-moved : has_own_ids xs ≡ true → has_items_below ys max_osd ≡ has_items_below xs max_osd
  below-moved own = list_all-moved _ _ (λ b. list_all-agree _ _ (λ i. rw (known-moved own i.id, bucket_at-moved xs ys moved own i.id)) b.items) xs ys moved

  weights-moved : list_all (λ b. weights_ok b.kind b.items) ys ≡ list_all (λ b. weights_ok b.kind b.items) xs
  weights-moved = list_all-IsPermutation _ xs ys moved

  -- nor does it that they are well formed
  pub forest_ok-moved : forest_ok ys max_osd ≡ forest_ok xs max_osd
  forest_ok-moved = elim (cases_Bool (has_own_ids xs)) [
    | inl own ↦ rw (own_ids-moved xs ys moved, below-moved own, once-moved xs ys moved, weights-moved)
    | inr shared ↦
        let also = own_ids-moved xs ys moved ∙ shared in
        rw (also, shared)
  ]

-- buckets sorted by falling ids
pub sorted-falls : (buckets : List Bucket) → IsSortedBy (λ x y. is_lt (int_cmp y.id x.id)) buckets → IsNotAscending buckets
sorted-falls buckets up i j d below in_range =
    let order = IsStrictWeakOrder-flip (λ x y. is_lt (int_cmp x.id y.id)) (ranks_by int_cmp_total (λ (b : Bucket). b.id)) in
    let far = sorted_far (λ x y. is_lt (int_cmp y.id x.id)) order buckets up i j d (omega arith) in_range in
    grind (arith, ints)
