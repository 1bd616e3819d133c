-- What halving finds in a list whose keys ascend.
use Rattle.std.proofs.Common.{◌≡◌, ℕ, zero, suc, ◌+◌, ◌-◌, ◌<◌, ◌≤◌, ◌==◌, Bool, true, false, List, [], ◌∷◌, length, get_or, take, Option, Some, None, Result, Ok, Err, Less, Equal, Greater, reverse, refl, sym, ap, ◌∙◌, inl, inr, arith, eq-eqb, leb, cond}
use Rattle.std.specs.List.{find, All, AllWithin, slice_get}
use Rattle.std.specs.List.Sorted.{IsNonDecreasingBy, IsBinarySearchResult, IsSearchInRange, IsPartitionPoint}
use Rattle.std.specs.Option.{option_or, option_and_then}
use Rattle.std.specs.Ordering.{nat_cmp, ordering_index}
use Rattle.std.specs.Result.{is_ok}
use Rattle.std.proofs.lemmas.Bool.{cases_Bool, leb-true, leb-false, ne_eqb, eqb-false, cases_lt}
use Rattle.std.proofs.lemmas.Bool.Decides.{nat_tests}
use Rattle.std.proofs.lemmas.Cmp.{ranked}
use Rattle.std.proofs.lemmas.List.{reverse-append, length-take, get_or-take, get_or_default}
use Rattle.std.proofs.lemmas.List.Folds.{list_any_at, list_any_none, find-append}
use Rattle.std.proofs.lemmas.List.Sorted.{All-permutation, IsPermutation-reverse}
use Rattle.std.proofs.lemmas.Option.{slice_get-get_or}
use Rattle.keylist.specs.Keys.{has_key, entry_at}
use Rattle.keylist.specs.Order.{IsRising}
use Rattle.keylist.proofs.KeyedOrder.{rising_ascends}

-- ---- answers of a comparison

-- a comparison that answers equal
is_equal : (a k : ℕ) → nat_cmp a k ≡ Equal → a ≡ k
is_equal a k e = ranked a k Equal (sym e)

-- one that answers less
is_less : (a k : ℕ) → nat_cmp a k ≡ Less → a < k
is_less a k e = ranked a k Less (sym e)

-- one that answers greater
is_greater : (a k : ℕ) → nat_cmp a k ≡ Greater → k < a
is_greater a k e = ranked a k Greater (sym e)

-- ---- numbers that are not the same

-- a number below another is not that one
below-apart : (a k : ℕ) → a < k → (a == k) ≡ false
below-apart a k below = ne_eqb a k (λ e. omega arith)

-- nor is one above it
above-apart : (a k : ℕ) → k < a → (a == k) ≡ false
above-apart a k above = ne_eqb a k (λ e. omega arith)

-- comparisons with one number rise with what is compared
index_rises : (a b k : ℕ) → a ≤ b → ordering_index (nat_cmp a k) ≤ ordering_index (nat_cmp b k)
index_rises a b k below = grind (arith, nat_tests)

module _ {X : Type 0} where
  -- no element passes
  pub find-none : (p : X → Bool) (xs : List X) → All (λ x. p x ≡ false) xs → find p xs ≡ None
  find-none p [] fails = refl
  find-none p (x ∷ xs) fails = rw (fails 0 x (omega arith)) (find-none p xs (λ i d inside. fails (suc i) d (omega arith)))

  -- the first that passes
  pub find-first : (p : X → Bool) (xs : List X) (i : ℕ) (d : X) → i < length xs → AllWithin (λ x. p x ≡ false) xs 0 i → p (get_or xs i d) ≡ true
      → find p xs ≡ Some (get_or xs i d)
  find-first p [] i d inside before here = absurd (omega arith)
  find-first p (x ∷ xs) zero d inside before here = rw here refl
  find-first p (x ∷ xs) (suc i) d inside before here =
      rw (before 0 x (omega arith) (omega arith)) (find-first p xs i d (omega arith) (λ k e low high. before (suc k) e (omega arith) (omega arith)) here)

  -- the same of the list the other way round
  pub find-none_reverse : (p : X → Bool) (xs : List X) → All (λ x. p x ≡ false) xs → find p (reverse xs) ≡ None
  find-none_reverse p xs fails = find-none p (reverse xs) (All-permutation (λ x. p x ≡ false) xs (reverse xs) (IsPermutation-reverse xs) fails)

  -- the last that passes
  pub find-last : (p : X → Bool) (xs : List X) (i : ℕ) (d : X) → i < length xs → AllWithin (λ x. p x ≡ false) xs (i + 1) (length xs) → p (get_or xs i d) ≡ true
      → find p (reverse xs) ≡ Some (get_or xs i d)
  find-last p [] i d inside after here = absurd (omega arith)
  find-last p (x ∷ xs) zero d inside after here =
      let none = find-none_reverse p xs (λ j e within. after (suc j) e (omega arith) (omega arith)) in
      ap (find p) (reverse-append (x ∷ []) xs) ∙ find-append p (reverse xs) (x ∷ []) ∙ ap (λ o. option_or o (find p (x ∷ []))) none ∙ (rw here refl)
  find-last p (x ∷ xs) (suc i) d inside after here =
      let found = find-last p xs i d (omega arith) (λ j e low high. after (suc j) e (omega arith) (omega arith)) here in
      ap (find p) (reverse-append (x ∷ []) xs) ∙ find-append p (reverse xs) (x ∷ []) ∙ ap (λ o. option_or o (find p (x ∷ []))) found

module _ {X : Type 0} (key : X → ℕ) where
  -- ---- by a binary search

  apart_from : (xs : List X) (k i : ℕ) → IsBinarySearchResult (λ y. nat_cmp (key y) k) xs (Err i) → IsNonDecreasingBy key xs
      → All (λ x. (key x == k) ≡ false) xs
  apart_from xs k i found rises j d inside =
      let parted = found (λ a b e order high. index_rises (key (get_or xs a e)) (key (get_or xs b e)) k (rises a b e order high)) in
      elim (cases_lt j i) [
        | inl low ↦ below-apart _ k (is_less _ k (parted.0 j d (omega arith) low))
        | inr high ↦ above-apart _ k (is_greater _ k (parted.1 j d high inside))
      ]

  pub has-sought : (xs : List X) (k : ℕ) (r : Result ℕ ℕ) → IsSearchInRange r (length xs) → IsBinarySearchResult (λ y. nat_cmp (key y) k) xs r → IsNonDecreasingBy key xs
      → is_ok r ≡ has_key key xs k
  has-sought [] k (Ok i) within found rises = absurd (omega arith)
  has-sought (x ∷ xs) k (Ok i) within found rises = sym (list_any_at (λ y. key y == k) (x ∷ xs) i x within (eq-eqb _ _ (is_equal _ k (found x))))
  has-sought xs k (Err i) within found rises = sym (list_any_none (λ y. key y == k) xs (apart_from xs k i found rises))

  -- what a binary search finds has the key
  pub key-sought : (xs : List X) (k i : ℕ) (d : X) → IsBinarySearchResult (λ y. nat_cmp (key y) k) xs (Ok i) → key (get_or xs i d) ≡ k
  key-sought xs k i d found = is_equal _ k (found d)

  pub entry-absent : (xs : List X) (k i : ℕ) → IsBinarySearchResult (λ y. nat_cmp (key y) k) xs (Err i) → IsRising key xs → entry_at key xs k ≡ None
  entry-absent xs k i found rises = find-none (λ y. key y == k) xs (apart_from xs k i found (rising_ascends key xs rises))

  pub entry-sought : (xs : List X) (k i : ℕ) (x : X) → i < length xs → x ≡ get_or xs i x → IsBinarySearchResult (λ y. nat_cmp (key y) k) xs (Ok i) → IsRising key xs
      → entry_at key xs k ≡ Some x
  entry-sought xs k i x inside is found rises =
      let same : key (get_or xs i x) ≡ k = is_equal _ k (found x) in
      let before : AllWithin (λ y. (key y == k) ≡ false) xs 0 i = λ j d low high. below-apart _ k (rw (is_equal _ k (found d)) at (rises j i d high inside)) in
      find-first (λ y. key y == k) xs i x inside before (eq-eqb _ _ same) ∙ ap Some (sym is)

  -- ---- by the place where the keys pass another

  -- what stands before the place of the keys above k
  abbrev pub before : List X → ℕ → Option X
  before xs end = slice_get (take end xs) (length (take end xs) - 1)

  pub last-sought : (xs : List X) (k end : ℕ) → end ≤ length xs → IsPartitionPoint (λ y. leb (key y) k ≡ true) (λ y. leb (key y) k ≡ false) xs end → IsNonDecreasingBy key xs
      → option_and_then (λ x. cond (key x == k) (Some x) None) (before xs end) ≡ entry_at key (reverse xs) k
  last-sought xs k zero within parted rises =
      sym (find-none_reverse (λ y. key y == k) xs (λ j d inside. above-apart _ k (leb-false _ k (parted.1 j d (omega arith) inside))))
  last-sought [] k (suc e) within parted rises = absurd (omega arith)
  last-sought (x ∷ xs) k (suc e) within parted rises =
      let all = x ∷ xs in
      let y = get_or all e x in
      let front = take (suc e) all in
      let long : length front ≡ suc e = rw length-take (omega arith) in
      let place : length front - 1 ≡ e = omega (arith, long) in
      let last : before all (suc e) ≡ Some y = ap (slice_get front) place ∙ slice_get-get_or front e x (omega (arith, long)) ∙ ap Some (get_or-take (suc e) all e x (omega arith)) in
      let at_most = leb-true (key y) k (parted.0 e x (omega arith) (omega arith)) in
      let after : AllWithin (λ z. (key z == k) ≡ false) all (e + 1) (length all) = λ j d low high. above-apart _ k (leb-false _ k (parted.1 j d (omega arith) high)) in
      rw last (elim (cases_Bool (key y == k)) [
        | inl same ↦ rw same (sym (find-last (λ z. key z == k) all e x (omega arith) after same))
        | inr other ↦
            let less : key y < k = omega (arith, at_most, eqb-false (key y) k other) in
            let none : All (λ z. (key z == k) ≡ false) all = λ j d inside. elim (cases_lt j (e + 1)) [
              | inl low ↦ below-apart _ k (omega (arith, less, rw (get_or_default all e d x (omega arith)) at (rises j e d (omega arith) (omega arith))))
              | inr high ↦ after j d high inside
            ] in
            rw other (sym (find-none_reverse (λ z. key z == k) all none))
      ])

  pub last-shown : (xs : List X) (k : ℕ) (o : Option X) (end : ℕ) → o ≡ before xs end → option_and_then (λ x. cond (key x == k) (Some x) None) (before xs end) ≡ entry_at key (reverse xs) k
      → option_and_then (λ x. cond (key x == k) (Some x) None) o ≡ entry_at key (reverse xs) k
  last-shown xs k o end is found = ap (option_and_then (λ x. cond (key x == k) (Some x) None)) is ∙ found
