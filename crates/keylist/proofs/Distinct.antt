-- Numbers of which none stands twice: in whatever order, and by places.
use Rattle.std.proofs.Common.{◌≡◌, ℕ, zero, suc, ◌+◌, ◌<◌, ◌≤◌, Bool, true, false, not, eqb, List, [], ◌∷◌, map, length, get_or, Option, Some, None, IsTrue, IsPermutation, find, refl, sym, ◌∙◌, inl, inr, arith, eq-eqb}
use mathlib.Core.Bool.{false≢true}
use Rattle.std.specs.Prelude.{nat_lt}
use Rattle.std.specs.List.{list_any, list_all, count_by, AllPairs, IsAllAdjacentAnswer}
use Rattle.std.specs.List.Sorted.{IsNonDecreasingBy}
use Rattle.std.proofs.lemmas.Bool.{cases_Bool, false_from_ne_true, eqb-true}
use Rattle.std.proofs.lemmas.Bool.Decides.{nat_tests}
use Rattle.std.proofs.lemmas.List.{get_or-map, length-map}
use Rattle.std.proofs.lemmas.List.Folds.{list_any_at, list_any_none}
use Rattle.std.proofs.lemmas.List.Sorted.{IsPermutation-sym, IsPermutation-map, All-permutation, Contains-permutation}
use Rattle.std.proofs.lemmas.List.Sums.{AllPass-from_list_all, list_all-from_AllPass}
use Rattle.std.proofs.lemmas.Map.Keys.{IsDistinct-from_apart, apart_from_distinct, IsDistinct-IsPermutation}
use Rattle.keylist.proofs.Counts.{count_by-cons, find-place, find-one}
use Rattle.keylist.proofs.Each.{same_tests}
use Rattle.keylist.specs.Keys.{is_distinct}
use Rattle.keylist.proofs.Tests.{and_first, and_second, not_true}

-- ---- by places

-- numbers at two places differ where none stands twice
pub distinct_apart : (ks : List ℕ) → is_distinct ks ≡ true → (i j d : ℕ) → i < j → j < length ks → eqb (get_or ks i d) (get_or ks j d) ≡ false
unfolding is_distinct
distinct_apart [] h i j d below inside = absurd (omega arith)
distinct_apart (k ∷ ks) h i zero d below inside = absurd (omega arith)
distinct_apart (k ∷ ks) h zero (suc j) d below inside =
    let none = not_true _ (and_first (not (list_any (λ y. eqb y k) ks)) (is_distinct ks) h) in
    let differs : eqb (get_or ks j d) k ≡ false = false_from_ne_true _ (λ e. absurd (false≢true (sym none ∙ list_any_at (λ y. eqb y k) ks j d (omega arith) e))) in
    grind (arith, nat_tests)
distinct_apart (k ∷ ks) h (suc i) (suc j) d below inside = distinct_apart ks (and_second (not (list_any (λ y. eqb y k) ks)) (is_distinct ks) h) i j d (omega arith) (omega arith)

-- none stands twice where the numbers at any two places differ
pub apart_distinct : (ks : List ℕ) → ((i j d : ℕ) → i < j → j < length ks → eqb (get_or ks i d) (get_or ks j d) ≡ false) → is_distinct ks ≡ true
unfolding is_distinct
apart_distinct [] apart = refl
apart_distinct (k ∷ ks) apart =
    let none : list_any (λ y. eqb y k) ks ≡ false = list_any_none (λ y. eqb y k) ks (λ j d inside. let differs = apart 0 (suc j) d (omega arith) (omega arith) in grind (arith, nat_tests)) in
    let rest = apart_distinct ks (λ i j d below inside. apart (suc i) (suc j) d (omega arith) (omega arith)) in
    rw (none, rest) refl

-- ---- in another order

-- two numbers are compared either way round
eqb_flips : (a b : ℕ) → eqb a b ≡ eqb b a
eqb_flips a b = grind (arith, nat_tests)

-- none stands twice in another order
still_distinct : (xs ys : List ℕ) → IsPermutation xs ys → is_distinct xs ≡ true → is_distinct ys ≡ true
still_distinct xs ys moved h =
    let there = IsDistinct-IsPermutation eqb eqb_flips xs ys moved (IsDistinct-from_apart eqb xs (distinct_apart xs h)) in
    apart_distinct ys (λ i j d below inside. apart_from_distinct eqb ys i j d there below inside)

-- whether a key stands twice does not hang on the order
pub distinct-moved : {X : Type 0} (number : X → ℕ) (xs ys : List X) → IsPermutation xs ys → is_distinct (map number ys) ≡ is_distinct (map number xs)
distinct-moved number xs ys moved =
    let there = IsPermutation-map number xs ys moved in
    same_tests _ _ (still_distinct _ _ (IsPermutation-sym _ _ there)) (still_distinct _ _ there)

-- a test of each element does not hang on the order
pub list_all-moved : {X : Type 0} (p : X → Bool) (xs ys : List X) → IsPermutation xs ys → list_all p ys ≡ list_all p xs
list_all-moved p xs ys moved =
    same_tests _ _
    (λ all. list_all-from_AllPass p xs (All-permutation (λ x. p x ≡ true) ys xs (IsPermutation-sym xs ys moved) (AllPass-from_list_all p ys all)))
    (λ all. list_all-from_AllPass p ys (All-permutation (λ x. p x ≡ true) xs ys moved (AllPass-from_list_all p xs all)))

-- ---- look-ups by a number

module _ {X : Type 0} (number : X → ℕ) where
  none_counted : (k : ℕ) (xs : List X) → list_any (λ j. eqb j k) (map number xs) ≡ false → count_by (λ x. eqb (number x) k) xs ≡ 0
  none_counted k [] h = refl
  none_counted k (x ∷ xs) h = elim (cases_Bool (eqb (number x) k)) [
    | inl same ↦ absurd (false≢true (sym (rw same at h)))
    | inr other ↦ rw (count_by-cons (λ y. eqb (number y) k) x xs, other, none_counted k xs (rw other at h)) refl
  ]

  -- a number stands once at most
  pub one_counted : (k : ℕ) (xs : List X) → is_distinct (map number xs) ≡ true → count_by (λ x. eqb (number x) k) xs ≤ 1
  unfolding is_distinct
  one_counted k [] h = omega arith
  one_counted k (x ∷ xs) h =
      let none = not_true _ (and_first (not (list_any (λ y. eqb y (number x)) (map number xs))) (is_distinct (map number xs)) h) in
      let rest = one_counted k xs (and_second (not (list_any (λ y. eqb y (number x)) (map number xs))) (is_distinct (map number xs)) h) in
      elim (cases_Bool (eqb (number x) k)) [
        | inl same ↦
            let zero_more = none_counted k xs (rw (eqb-true _ _ same) at none) in
            rw (count_by-cons (λ y. eqb (number y) k) x xs, same, zero_more) (omega arith)
        | inr other ↦ rw (count_by-cons (λ y. eqb (number y) k) x xs, other) (omega (arith, rest))
      ]

  found-moved : (xs ys : List X) → IsPermutation xs ys → is_distinct (map number xs) ≡ true → (k : ℕ) (x : X) → find (λ y. eqb (number y) k) ys ≡ Some x → find (λ y. eqb (number y) k) xs ≡ Some x
  found-moved xs ys moved own k x found =
      let there = find-place (λ y. eqb (number y) k) ys x found in
      let here = Contains-permutation ys xs x (IsPermutation-sym xs ys moved) (there.0, there.1, there.2) in
      find-one (λ y. eqb (number y) k) xs here.0 x here.1 here.2 there.3 (one_counted k xs own)

  -- what a number leads to does not hang on the order
  pub find-moved : (xs ys : List X) → IsPermutation xs ys → is_distinct (map number xs) ≡ true → (k : ℕ) → find (λ y. eqb (number y) k) ys ≡ find (λ y. eqb (number y) k) xs
  find-moved xs ys moved own k = by_found _ _ (found-moved xs ys moved own k) (found-moved ys xs (IsPermutation-sym xs ys moved) (distinct-moved number xs ys moved ∙ own) k)
    where
      by_found : (o q : Option X) → ((x : X) → o ≡ Some x → q ≡ Some x) → ((x : X) → q ≡ Some x → o ≡ Some x) → o ≡ q
      by_found None None there back = refl
      by_found None (Some x) there back = back x refl
      by_found (Some x) q there back = sym (there x refl)

  -- ---- in order

  pub rising_distinct : (xs : List X) → AllPairs (λ a b. number a < number b) xs → is_distinct (map number xs) ≡ true
  rising_distinct [] rises = apart_distinct [] (λ i j d below inside. absurd (omega arith))
  rising_distinct (x ∷ xs) rises = apart_distinct (map number (x ∷ xs)) (λ i j d below inside.
      let in_range : j < length (x ∷ xs) = rw length-map at inside in
      let before : i < length (x ∷ xs) = omega arith in
      let less = rises i j x below in_range in
      rw (get_or-map number (x ∷ xs) i x d before, get_or-map number (x ∷ xs) j x d in_range) (grind (arith, nat_tests)))

  tied : (xs : List X) (k : ℕ) (d : X) → k + 1 < length xs → number (get_or xs k d) ≡ number (get_or xs (k + 1) d) → is_distinct (map number xs) ≡ false
  tied xs k d inside same = false_from_ne_true _ (λ own.
      let before : k < length xs = omega arith in
      let apart = distinct_apart (map number xs) own k (k + 1) 0 (omega arith) (rw length-map inside) in
      let differs = rw (get_or-map number xs k d 0 before, get_or-map number xs (k + 1) d 0 inside) at apart in
      absurd (false≢true (sym differs ∙ eq-eqb _ _ same)))

  -- in order, no number stands twice just where each is above the one before
  pub rises-tested : (xs : List X) → IsNonDecreasingBy number xs → (r : Bool) → IsAllAdjacentAnswer (λ a b t. t ≡ nat_lt (number a) (number b)) xs r
      → (r ≡ is_distinct (map number xs)) × (IsTrue r → AllPairs (λ a b. number a < number b) xs)
  rises-tested xs sorted true adjacent =
      let rises : AllPairs (λ a b. number a < number b) xs = λ i j d below inside.
      let next : number (get_or xs i d) < number (get_or xs (i + 1) d) = let test = adjacent i d (omega arith) in grind (arith, nat_tests) in
      omega (arith, next, sorted (i + 1) j d (omega arith) inside)
      in (sym (rising_distinct xs rises), λ _. rises)
  rises-tested [] sorted false ties = absurd (omega (arith, ties.1))
  rises-tested (x ∷ xs) sorted false ties =
      let k = ties.0 in
      let order = sorted k (k + 1) x (omega arith) ties.1 in
      let test = ties.2 x in
      let same : number (get_or (x ∷ xs) k x) ≡ number (get_or (x ∷ xs) (k + 1) x) = grind (arith, nat_tests, test, order) in
      (sym (tied (x ∷ xs) k x ties.1 same), λ e. absurd (cc))
