-- Lists with rising keys are the same where they have the same entries.
use Rattle.std.proofs.Common.{◌≡◌, ◌≢◌, ◌∙◌, refl, sym, ap, ℕ, ◌<◌, true, eqb, List, [], ◌∷◌, get_or, map, Some, None, inl, inr, arith, eq-eqb}
use mathlib.Core.Bool.{false≢true}
use Rattle.std.specs.List.{All}
use Rattle.std.proofs.lemmas.Bool.{cases_Bool, cases_order, ne_eqb, eqb-true}
use Rattle.keylist.specs.Keys.{entry_at, is_distinct}
use Rattle.keylist.specs.Order.{IsRising, SortsBy}
use Rattle.keylist.proofs.Distinct.{distinct-moved, find-moved, rising_distinct}
use Rattle.keylist.proofs.KeyedFinds.{find-none}
use Rattle.keylist.proofs.KeyedOrder.{rising_head, rising_tail, distinct_rises}

module _ {X : Type 0} (key : X → ℕ) where
  -- what is above has no entry of a lower key
  none_below : (xs : List X) (k : ℕ) → All (λ y. k < key y) xs → entry_at key xs k ≡ None
  none_below xs k above = find-none (λ y. eqb (key y) k) xs (λ i d inside. ne_eqb (key (get_or xs i d)) k (λ e. omega (arith, above i d inside, e)))

  first_found : (x : X) (xs : List X) → entry_at key (x ∷ xs) (key x) ≡ Some x
  first_found x xs = rw (eq-eqb (key x) (key x) refl) refl

  later_found : (x : X) (xs : List X) (k : ℕ) → key x ≢ k → entry_at key (x ∷ xs) k ≡ entry_at key xs k
  later_found x xs k other = rw (ne_eqb (key x) k other) refl

  above_later : (x y : X) (ys : List X) → IsRising key (y ∷ ys) → key x < key y → All (λ z. key x < key z) ys
  above_later x y ys rises less = λ i d inside. omega (arith, rising_head key y ys rises i d inside, less)

  pub rising_same : (xs ys : List X) → IsRising key xs → IsRising key ys → ((k : ℕ) → entry_at key xs k ≡ entry_at key ys k) → xs ≡ ys
  rising_same [] [] rise_x rise_y same = refl
  rising_same [] (y ∷ ys) rise_x rise_y same = let wrong : None ≡ Some y = same (key y) ∙ first_found y ys in absurd (cc)
  rising_same (x ∷ xs) [] rise_x rise_y same = let wrong : Some x ≡ None = sym (first_found x xs) ∙ same (key x) in absurd (cc)
  rising_same (x ∷ xs) (y ∷ ys) rise_x rise_y same = elim (cases_order (key x) (key y)) [
    | inl level ↦
        let one : Some x ≡ Some y = sym (first_found x xs) ∙ same (key x) ∙ ap (entry_at key (y ∷ ys)) level ∙ first_found y ys in
        let is : x ≡ y = cc in
        let rest = rising_same xs ys (rising_tail key x xs rise_x) (rising_tail key y ys rise_y) (tails level) in
        cc
    | inr (inl less) ↦
        let none = later_found y ys (key x) (λ e. omega (arith, less, e)) ∙ none_below ys (key x) (above_later x y ys rise_y less) in
        let wrong : Some x ≡ None = sym (first_found x xs) ∙ same (key x) ∙ none in
        absurd (cc)
    | inr (inr more) ↦
        let none = later_found x xs (key y) (λ e. omega (arith, more, e)) ∙ none_below xs (key y) (above_later y x xs rise_x more) in
        let wrong : Some y ≡ None = sym (first_found y ys) ∙ sym (same (key y)) ∙ none in
        absurd (cc)
  ]
    where
      tails : key x ≡ key y → (k : ℕ) → entry_at key xs k ≡ entry_at key ys k
      tails level k = elim (cases_Bool (eqb (key x) k)) [
        | inl here ↦
            let at : key x ≡ k = eqb-true (key x) k here in
            let x_none = none_below xs (key x) (rising_head key x xs rise_x) in
            let y_none = none_below ys (key y) (rising_head key y ys rise_y) in
            ap (entry_at key xs) (sym at) ∙ x_none ∙ sym y_none ∙ ap (entry_at key ys) (sym level ∙ at)
        | inr other ↦
            let not_x : key x ≢ k = λ e. absurd (false≢true (sym other ∙ eq-eqb (key x) k e)) in
            let not_y : key y ≢ k = λ e. not_x (level ∙ e) in
            sym (later_found x xs k not_x) ∙ same k ∙ later_found y ys k not_y
      ]

  -- what rises is in order
  pub sorted_same : (xs ys : List X) → IsRising key xs → SortsBy key xs ys → ys ≡ xs
  sorted_same xs ys rises sorts =
      let own : is_distinct (map key xs) ≡ true = rising_distinct key xs rises in
      let ys_rise : IsRising key ys = distinct_rises key ys sorts.ascending (distinct-moved key xs ys sorts.same ∙ own) in
      rising_same ys xs ys_rise rises (λ k. find-moved key xs ys sorts.same own k)
