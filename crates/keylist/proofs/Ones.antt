-- One entry put into a list with rising keys, and one taken away.
use Rattle.std.proofs.Common.{◌≡◌, ℕ, zero, suc, ◌<◌, ◌≤◌, Bool, not, List, [], ◌∷◌, length, get_or, refl, sym, ap, subst, inl, inr, eq-eqb, arith}
use Rattle.std.specs.List.{filter, insert, remove}
use Rattle.std.proofs.lemmas.Bool.{ne_eqb, cases_order}
use Rattle.keylist.specs.Keys.{has_key}
use Rattle.keylist.specs.Order.{IsRising}
use Rattle.keylist.specs.Puts.{put}
use Rattle.keylist.proofs.KeyedOrder.{rising_tail}
use Rattle.keylist.proofs.KeyedPuts.{put_past, put_before}

module _ {X : Type 0} (key : X → ℕ) where
  -- an entry goes before the first whose key is greater
  pub put_between : (xs : List X) (at : ℕ) (e : X) → at ≤ length xs → ((k : ℕ) (d : X) → k < at → key (get_or xs k d) < key e)
      → (at < length xs → key e < key (get_or xs at e)) → put key xs e ≡ insert xs at e
  unfolding put
  put_between [] zero e within below above = refl
  put_between [] (suc at) e within below above = absurd (omega arith)
  put_between (x ∷ xs) zero e within below above = put_before key x xs e (above (omega arith))
  put_between (x ∷ xs) (suc at) e within below above =
      let first : key x < key e = below 0 x (omega arith) in
      rw (put_past key x xs e first) (ap (λ ys. x ∷ ys) (put_between xs at e (omega arith) (λ k d low. below (suc k) d (omega arith)) (λ inside. above (omega arith))))

  module _ (k : ℕ) where
    -- whether an entry has another key
    abbrev pub stays : X → Bool
    stays e = not (has_key (λ (i : ℕ). i) (k ∷ []) (key e))

    -- where none has the key, all stay
    pub others_stay : (xs : List X) → ((j : ℕ) (d : X) → j < length xs → key (get_or xs j d) ≡ k → ⊥) → filter stays xs ≡ xs
    others_stay [] other = refl
    others_stay (x ∷ xs) other =
        rw (ne_eqb k (key x) (λ same. other 0 x (omega arith) (sym same))) (ap (λ ys. x ∷ ys) (others_stay xs (λ j d inside. other (suc j) d (omega arith))))

    -- where one has it, that one goes
    pub one_goes : (xs : List X) (at : ℕ) → IsRising key xs → at < length xs → ((d : X) → key (get_or xs at d) ≡ k) → filter stays xs ≡ remove xs at
    one_goes [] at rises inside same = absurd (omega arith)
    one_goes (x ∷ xs) zero rises inside same =
        let first : key x ≡ k = same x in
        rw (eq-eqb k (key x) (sym first)) (others_stay xs (λ j e within is. let above : key x < key (get_or xs j e) = rises 0 (suc j) e (omega arith) (omega arith) in omega arith))
    one_goes (x ∷ xs) (suc at) rises inside same =
        let below : key x < key (get_or xs at x) = rises 0 (suc at) x (omega arith) inside in
        let there : key (get_or xs at x) ≡ k = same x in
        rw (ne_eqb k (key x) (λ is. omega arith)) (ap (λ ys. x ∷ ys) (one_goes xs at (rising_tail key x xs rises) (omega arith) same))

    -- where the first that is not below it does not have it, none has
    pub none_there : (xs : List X) (at : ℕ) → IsRising key xs → ((j : ℕ) (d : X) → j < at → key (get_or xs j d) < k)
        → ((j : ℕ) (d : X) → at ≤ j → j < length xs → k ≤ key (get_or xs j d)) → ((d : X) → at < length xs → key (get_or xs at d) ≡ k → ⊥)
        → (j : ℕ) (d : X) → j < length xs → key (get_or xs j d) ≡ k → ⊥
    none_there xs at rises below above other j d inside same = elim (cases_order j at) [
      | inl here ↦ other d (omega arith) (subst (λ (i : ℕ). key (get_or xs i d) ≡ k) here same)
      | inr (inl less) ↦ (let low : key (get_or xs j d) < k = below j d less in omega arith)
      | inr (inr more) ↦
          let first : k ≤ key (get_or xs at d) = above at d (omega arith) (omega arith) in
          let rise : key (get_or xs at d) < key (get_or xs j d) = rises at j d more inside in
          omega arith
    ]
