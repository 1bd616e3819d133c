-- Lists whose keys rise or ascend.
use Rattle.std.proofs.Common.{◌≡◌, length, map, true, ℕ, zero, suc, ◌<◌, Bool, List, ◌∷◌, inl, inr, arith}
use Rattle.std.specs.List.{All, filter}
use Rattle.std.specs.List.Sorted.{IsNonDecreasingBy}
use Rattle.std.proofs.lemmas.Bool.{cases_eq, eqb-false}
use Rattle.std.proofs.lemmas.List.{get_or-map, length-map}
use Rattle.std.proofs.lemmas.List.Kept.{AllPairs-filter}
use Rattle.keylist.specs.Keys.{is_distinct}
use Rattle.keylist.specs.Order.{IsRising}
use Rattle.keylist.proofs.Distinct.{distinct_apart}

module _ {X : Type 0} (key : X → ℕ) where
  -- what rises ascends
  pub rising_ascends : (xs : List X) → IsRising key xs → IsNonDecreasingBy key xs
  rising_ascends xs rises i j d order inside = elim (cases_eq i j) [
    | inl same ↦ rw same (omega arith)
    | inr other ↦ omega (arith, rises i j d (omega arith) inside)
  ]

  -- ---- the first entry and the others

  pub rising_head : (x : X) (xs : List X) → IsRising key (x ∷ xs) → All (λ y. key x < key y) xs
  rising_head x xs rises i d inside = rises 0 (suc i) d (omega arith) (omega arith)

  pub rising_tail : (x : X) (xs : List X) → IsRising key (x ∷ xs) → IsRising key xs
  rising_tail x xs rises i j d below inside = rises (suc i) (suc j) d (omega arith) (omega arith)

  pub rising_from : (x : X) (xs : List X) → All (λ y. key x < key y) xs → IsRising key xs → IsRising key (x ∷ xs)
  rising_from x xs above rises i zero d below inside = absurd (omega arith)
  rising_from x xs above rises zero (suc j) d below inside = above j d (omega arith)
  rising_from x xs above rises (suc i) (suc j) d below inside = rises i j d (omega arith) (omega arith)

  -- some of the entries
  pub rising-filter : (p : X → Bool) (xs : List X) → IsRising key xs → IsRising key (filter p xs)
  rising-filter p xs rises = AllPairs-filter (λ a b. key a < key b) p xs rises

  -- what ascends rises where no key stands twice
  pub distinct_rises : (xs : List X) → IsNonDecreasingBy key xs → is_distinct (map key xs) ≡ true → IsRising key xs
  distinct_rises xs ascends own i j d below inside =
      let other = distinct_apart (map key xs) own i j 0 below (rw length-map inside) in
      let before : i < length xs = omega arith in
      let apart = eqb-false _ _ (rw (get_or-map key xs i d 0 before, get_or-map key xs j d 0 inside) at other) in
      omega (arith, apart, ascends i j d (omega arith) inside)
