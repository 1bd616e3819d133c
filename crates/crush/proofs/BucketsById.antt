-- Buckets of falling ids are the only ones of their order.
use Rattle.std.proofs.Common.{◌≡◌, ◌≢◌, ℕ, zero, suc, ◌<◌, true, List, [], ◌∷◌, length, get_or, ◌<ℤ◌, All, Contains, IsPermutation, ◌⊎◌, inl, inr, refl, sym, ap, ◌∙◌, arith}
use Rattle.std.specs.Prelude.{int_lt}
use Rattle.std.proofs.lemmas.Bool.{cases_Bool, both_ways}
use Rattle.std.proofs.lemmas.Int.{ints}
use Rattle.std.proofs.lemmas.List.Elements.{All-nil, All-cons, All-head, All-tail, All-contains, All-from_get_or}
use Rattle.std.proofs.lemmas.List.Sorted.{IsPermutation-refl, IsPermutation-sym, IsPermutation-trans, IsPermutation-cons, IsPermutation-append_left, IsPermutation-append_comm, Contains-permutation, All-permutation}
use Rattle.buckets.specs.declared.bucket.Bucket.{Bucket}
use Rattle.crush.specs.Order.{put_by_id, by_id}
use Rattle.crush.specs.WellFormed.{has_own_ids, IsDescending}
use Rattle.crush.proofs.OwnIds.{own_ids-twice}
use Rattle.crush.proofs.IdSearches.{no_bucket}

-- the ids fall, by recursion
abbrev Falls : List Bucket → Type 0
Falls [] = Unit {0}
Falls (b ∷ rest) = All (λ c. c.id <ℤ b.id) rest × Falls rest

-- no two ids are the same, by recursion
abbrev Apart : List Bucket → Type 0
Apart [] = Unit {0}
Apart (b ∷ rest) = All (λ c. c.id ≢ b.id) rest × Apart rest

-- so do ids that fall pairwise
falls-descending : (xs : List Bucket) → IsDescending xs → Falls xs
falls-descending [] falls = tt
falls-descending (x ∷ xs) falls = (λ k d lt. falls 0 (suc k) d (omega arith) (omega arith), falls-descending xs (λ i j d lt in_range. falls (suc i) (suc j) d (omega arith) (omega arith)))

-- ids that differ pairwise differ from the ids that follow
apart-pairs : (xs : List Bucket) → ((i j : ℕ) → i < j → j < length xs → (get_or xs i no_bucket).id ≢ (get_or xs j no_bucket).id) → Apart xs
apart-pairs [] pairs = tt
apart-pairs (x ∷ xs) pairs = (
  All-from_get_or (λ c. c.id ≢ x.id) xs no_bucket (λ k lt e. pairs 0 (suc k) (omega arith) (omega arith) (sym e)),
  apart-pairs xs (λ i j lt in_range. pairs (suc i) (suc j) (omega arith) (omega arith)),
)

-- buckets' own ids differ
apart-own : (xs : List Bucket) → has_own_ids xs ≡ true → Apart xs
apart-own xs own = apart-pairs xs (λ i j lt in_range same. both_ways _ (own_ids-twice xs i j lt in_range same) own)

-- a bucket that was put is one more
put-All : (P : Bucket → Type 0) (b : Bucket) (xs : List Bucket) → P b → All P xs → All P (put_by_id b xs)
put-All P b [] here all = All-cons P b [] here all
put-All P b (c ∷ xs) here all = elim (cases_Bool (int_lt c.id b.id)) [
  | inl lower ↦ rw lower (All-cons P b (c ∷ xs) here all)
  | inr higher ↦ rw higher (All-cons P c (put_by_id b xs) (All-head P c xs all) (put-All P b xs here (All-tail P c xs all)))
]

-- a bucket put in its place keeps the ids falling
put-falls : (b : Bucket) (xs : List Bucket) → Falls xs → All (λ c. c.id ≢ b.id) xs → Falls (put_by_id b xs)
put-falls b [] falls apart = (All-nil (λ c. c.id <ℤ b.id), tt)
put-falls b (c ∷ xs) falls apart = elim (cases_Bool (int_lt c.id b.id)) [
  | inl lower ↦
      let below : c.id <ℤ b.id = grind (arith, ints) in
      let rest : All (λ d. d.id <ℤ b.id) xs = λ k d lt. omega (arith, ints, below, falls.0 k d lt) in
      rw lower (All-cons (λ d. d.id <ℤ b.id) c xs below rest, falls)
  | inr higher ↦
      let ne = All-head (λ d. d.id ≢ b.id) c xs apart in
      let above : b.id <ℤ c.id = grind (arith, ints) in
      rw higher (put-All (λ d. d.id <ℤ c.id) b xs above falls.0, put-falls b xs falls.1 (All-tail (λ d. d.id ≢ b.id) c xs apart))
]

-- it joins the others, and none goes
put-moved : (b : Bucket) (xs : List Bucket) → IsPermutation (b ∷ xs) (put_by_id b xs)
put-moved b [] = IsPermutation-refl (b ∷ [])
put-moved b (c ∷ xs) = elim (cases_Bool (int_lt c.id b.id)) [
  | inl lower ↦ rw lower (IsPermutation-refl (b ∷ c ∷ xs))
  | inr higher ↦ rw higher (IsPermutation-trans (b ∷ c ∷ xs) (c ∷ b ∷ xs) (c ∷ put_by_id b xs) (IsPermutation-append_left xs (b ∷ c ∷ []) (c ∷ b ∷ []) (IsPermutation-append_comm (b ∷ []) (c ∷ []))) (IsPermutation-cons c (b ∷ xs) (put_by_id b xs) (put-moved b xs)))
]

-- the buckets by id are those given
by_id-moved : (xs : List Bucket) → IsPermutation xs (by_id xs)
by_id-moved [] = IsPermutation-refl []
by_id-moved (x ∷ xs) = IsPermutation-trans (x ∷ xs) (x ∷ by_id xs) (by_id (x ∷ xs)) (IsPermutation-cons x xs (by_id xs) (by_id-moved xs)) (put-moved x (by_id xs))

-- and their ids fall
by_id-falls : (xs : List Bucket) → Apart xs → Falls (by_id xs)
by_id-falls [] apart = tt
by_id-falls (x ∷ xs) apart = put-falls x (by_id xs) (by_id-falls xs apart.1) (All-permutation (λ c. c.id ≢ x.id) xs (by_id xs) (by_id-moved xs) apart.0)

-- an element of a list is its head or in its tail
head-or-tail : (x z : Bucket) (xs : List Bucket) → Contains (x ∷ xs) z → (z ≡ x) ⊎ Contains xs z
head-or-tail x z xs (zero, lt, e) = inl (sym e)
head-or-tail x z xs (suc k, lt, e) = inr (k, omega arith, e)

-- what is in the rest is in the list
in-tail : (x z : Bucket) (xs : List Bucket) → Contains xs z → Contains (x ∷ xs) z
in-tail x z xs (k, lt, e) = (suc k, omega arith, e)

-- two lists of falling ids with the same elements
same-falls : (xs ys : List Bucket) → Falls xs → Falls ys → ((z : Bucket) → Contains xs z → Contains ys z) → ((z : Bucket) → Contains ys z → Contains xs z) → xs ≡ ys
same-falls [] [] falls_x falls_y there back = refl
same-falls [] (y ∷ ys) falls_x falls_y there back = let none = back y (0, omega arith, refl) in absurd (omega (arith, none.1))
same-falls (x ∷ xs) [] falls_x falls_y there back = let none = there x (0, omega arith, refl) in absurd (omega (arith, none.1))
same-falls (x ∷ xs) (y ∷ ys) falls_x falls_y there back =
    let heads : x ≡ y = elim (head-or-tail y x ys (there x (0, omega arith, refl))) [
      | inl same ↦ same
      | inr below_y ↦ elim (head-or-tail x y xs (back y (0, omega arith, refl))) [
        | inl same ↦ sym same
        | inr below_x ↦ absurd (omega (arith, ints, All-contains (λ c. c.id <ℤ y.id) ys x falls_y.0 below_y, All-contains (λ c. c.id <ℤ x.id) xs y falls_x.0 below_x))
      ]
    ] in
    let tails : xs ≡ ys = same-falls xs ys falls_x.1 falls_y.1
    (λ z in_x. elim (head-or-tail y z ys (there z (in-tail x z xs in_x))) [
      | inl same ↦ absurd (omega (arith, ints, All-contains (λ c. c.id <ℤ x.id) xs z falls_x.0 in_x, ap (λ (c : Bucket). c.id) (heads ∙ sym same)))
      | inr in_y ↦ in_y
    ])
    (λ z in_y. elim (head-or-tail x z xs (back z (in-tail y z ys in_y))) [
      | inl same ↦ absurd (omega (arith, ints, All-contains (λ c. c.id <ℤ y.id) ys z falls_y.0 in_y, ap (λ (c : Bucket). c.id) (sym heads ∙ sym same)))
      | inr in_x ↦ in_x
    ])
    in rw (heads, tails)

-- buckets sorted by falling ids are those in order
pub by_id-sorted : (given sorted : List Bucket) → IsPermutation given sorted → has_own_ids given ≡ true → IsDescending sorted → sorted ≡ by_id given
by_id-sorted given sorted moved own falls =
    let other = by_id-moved given in
    same-falls sorted (by_id given) (falls-descending sorted falls) (by_id-falls given (apart-own given own))
    (λ z in_sorted. Contains-permutation given (by_id given) z other (Contains-permutation sorted given z (IsPermutation-sym given sorted moved) in_sorted))
    (λ z in_order. Contains-permutation given sorted z moved (Contains-permutation (by_id given) given z (IsPermutation-sym given (by_id given) other) in_order))

-- and buckets in order stay as they are
pub by_id-same : (buckets : List Bucket) → has_own_ids buckets ≡ true → IsDescending buckets → by_id buckets ≡ buckets
by_id-same buckets own falls = sym (by_id-sorted buckets buckets (IsPermutation-refl buckets) own falls)
