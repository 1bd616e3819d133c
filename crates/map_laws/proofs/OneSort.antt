-- A list in the order of its keys stays as it is when it is put in order.
use Rattle.std.proofs.Common.{◌≡◌, ◌∙◌, ℕ, suc, ◌<◌, Bool, true, false, cond, not, ◌&&◌, List, [], ◌∷◌, length, get_or, refl, sym, ap, ⊎_elim, arith, tests}
use Rattle.std.proofs.lemmas.Bool.{cases_lt}
use Rattle.std.specs.List.{filter}
use Rattle.std.specs.List.Sorted.{IsNonDecreasingBy}
use Rattle.std.specs.Ordering.{is_lt, nat_cmp}
use Rattle.std.proofs.lemmas.List.Sorted.{IsPermutation-refl}
use Rattle.keylist.specs.Order.{SortsBy}

-- neither of two keys is below the other
abbrev tied : ℕ → ℕ → Bool
tied m n = not (is_lt (nat_cmp m n)) && not (is_lt (nat_cmp n m))

-- so it is of equal keys
equal_tied : (m n : ℕ) → m ≡ n → tied m n ≡ true
equal_tied m n e = grind (arith, tests, e)

-- but not of a lower one
lower_untied : (m n : ℕ) → m < n → tied m n ≡ false
lower_untied m n less = grind (arith, tests, less)

module _ {X : Type 0} (key : X → ℕ) where
  -- the entries of a key
  abbrev with_key : ℕ → List X → List X
  with_key k xs = filter (λ x. tied k (key x)) xs

  -- none among entries whose keys are above it
  none_with : (k : ℕ) (xs : List X) → ((i : ℕ) (d : X) → i < length xs → k < key (get_or xs i d)) → with_key k xs ≡ []
  none_with k [] above = refl
  none_with k (x ∷ xs) above = rw (lower_untied k (key x) (above 0 x (omega arith))) (none_with k xs (λ i d inside. above (suc i) d (omega arith)))

  -- the first entry has its own key
  first_with : (k : ℕ) (x : X) (xs : List X) → k ≡ key x → with_key k (x ∷ xs) ≡ x ∷ with_key k xs
  first_with k x xs e = rw (equal_tied k (key x) e) refl

  -- what is in order is so without its first entry
  rest_up : (x : X) (xs : List X) → IsNonDecreasingBy key (x ∷ xs) → IsNonDecreasingBy key xs
  rest_up x xs up i j d le inside = up (suc i) (suc j) d (omega arith) (omega arith)

  -- no key is below the first of the other list
  not_below : (x y : X) (xs ys : List X) → IsNonDecreasingBy key (y ∷ ys) → with_key (key x) (y ∷ ys) ≡ with_key (key x) (x ∷ xs) → key x < key y → ⊥
  not_below x y xs ys up same less =
      let none = none_with (key x) (y ∷ ys) (λ i d inside. omega (arith, up 0 i d (omega arith) inside)) in
      let wrong : [] ≡ x ∷ with_key (key x) xs = sym none ∙ same ∙ first_with (key x) x xs refl in
      absurd cc

  -- so lists in order whose entries of each key are the same begin with one key
  same_first : (x y : X) (xs ys : List X) → IsNonDecreasingBy key (x ∷ xs) → IsNonDecreasingBy key (y ∷ ys)
      → ((z : X) → with_key (key z) (y ∷ ys) ≡ with_key (key z) (x ∷ xs)) → key x ≡ key y
  same_first x y xs ys up over same =
      ⊎_elim (λ less. absurd (not_below x y xs ys over (same x) less))
      (λ least. ⊎_elim (λ less. absurd (not_below y x ys xs up (sym (same y)) less)) (λ most. omega (arith, least, most)) (cases_lt (key y) (key x)))
      (cases_lt (key x) (key y))

  -- what is left where both first entries count, or neither does
  left_same : (x y : X) (xs ys : List X) (b : Bool) → cond b (y ∷ ys) ys ≡ cond b (x ∷ xs) xs → ys ≡ xs
  left_same x y xs ys true e = cc
  left_same x y xs ys false e = e

  -- the entries of each key are the same without first entries of one key
  same_rest : (x y : X) (xs ys : List X) → key x ≡ key y → (z : X) → with_key (key z) (y ∷ ys) ≡ with_key (key z) (x ∷ xs)
      → with_key (key z) ys ≡ with_key (key z) xs
  same_rest x y xs ys e z same =
      left_same x y (with_key (key z) xs) (with_key (key z) ys) (tied (key z) (key x))
      (ap (λ k. cond (tied (key z) k) (y ∷ with_key (key z) ys) (with_key (key z) ys)) e ∙ same)

  -- first entries of one key are the same
  one_first : (x y : X) (xs ys : List X) → key x ≡ key y → with_key (key x) (y ∷ ys) ≡ with_key (key x) (x ∷ xs) → y ≡ x
  one_first x y xs ys e same =
      let firsts : y ∷ with_key (key x) ys ≡ x ∷ with_key (key x) xs = sym (first_with (key x) y ys e) ∙ same ∙ first_with (key x) x xs refl in
      cc

  -- so lists in order whose entries of each key are the same are one
  one_list : (xs ys : List X) → IsNonDecreasingBy key xs → IsNonDecreasingBy key ys → ((z : X) → with_key (key z) ys ≡ with_key (key z) xs) → ys ≡ xs
  one_list [] [] up over same = refl
  one_list [] (y ∷ ys) up over same = let wrong : y ∷ with_key (key y) ys ≡ [] = sym (first_with (key y) y ys refl) ∙ same y in absurd cc
  one_list (x ∷ xs) [] up over same = let wrong : [] ≡ x ∷ with_key (key x) xs = same x ∙ first_with (key x) x xs refl in absurd cc
  one_list (x ∷ xs) (y ∷ ys) up over same =
      let e = same_first x y xs ys up over same in
      let first = one_first x y xs ys e (same x) in
      let rest = one_list xs ys (rest_up x xs up) (rest_up y ys over) (λ z. same_rest x y xs ys e z (same z)) in
      λ i. first i ∷ rest i

-- a list in order is put in order as it is
pub sorts_itself : {X : Type 0} (key : X → ℕ) (xs : List X) → IsNonDecreasingBy key xs → SortsBy key xs xs
sorts_itself key xs up = record { same = IsPermutation-refl xs; ascending = up; stable = λ x. refl }

-- and no other way
pub sorts_alone : {X : Type 0} (key : X → ℕ) (xs ys : List X) → IsNonDecreasingBy key xs → SortsBy key xs ys → ys ≡ xs
sorts_alone key xs ys up sorts = one_list key xs ys up sorts.ascending sorts.stable
