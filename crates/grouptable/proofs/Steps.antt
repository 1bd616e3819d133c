-- The groups of an OSD after one set was replaced.
use Rattle.std.proofs.Common.{◌≡◌, ℕ, zero, suc, ◌+◌, ◌<◌, ◌≤◌, Bool, true, false, cond, not, ◌&&◌, eqb, List, [], ◌∷◌, refl, ap, sym, ◌∙◌, subst, inl, inr, arith}
use Rattle.std.specs.List.{filter, range_with_len}
use Rattle.std.proofs.lemmas.Bool.{lt-ltb, le-ltb, eq-eqb, ne_eqb, cases_order}
use Rattle.grouptable.specs.Keys.{AllKeys, with_key, without_key}

-- two tests that agree on the numbers from a on, n of them
pub filter_same : (p q : ℕ → Bool) (a n : ℕ) → ((x : ℕ) → a ≤ x → x < a + n → q x ≡ p x) → filter q (range_with_len a n) ≡ filter p (range_with_len a n)
filter_same p q a zero same = refl
filter_same p q a (suc n) same = rw (same a (omega arith) (omega arith), filter_same p q (a + 1) n (λ x l h. same x (omega arith) (omega arith))) refl

-- what is filtered of a range from above a number is above it
all_above : (p : ℕ → Bool) (g a n : ℕ) → g < a → AllKeys (λ x. g < x) (filter p (range_with_len a n))
all_above p g a zero h = tt
all_above p g a (suc n) h =
    elim (p a) as (λ b. AllKeys (λ x. g < x) (cond b (a ∷ filter p (range_with_len (a + 1) n)) (filter p (range_with_len (a + 1) n)))) [
      | true ↦ (h, all_above p g (a + 1) n (omega arith))
      | false ↦ all_above p g (a + 1) n (omega arith)
    ]

-- a key below all is put first
with_key_first : (g : ℕ) (t : List ℕ) → AllKeys (λ x. g < x) t → with_key g t ≡ g ∷ t
with_key_first g [] a = refl
with_key_first g (y ∷ t) a = rw (lt-ltb g y a.0) refl

-- one above the first is put behind it
with_key_later : (g y : ℕ) (t : List ℕ) → y < g → with_key g (y ∷ t) ≡ y ∷ with_key g t
with_key_later g y t h = rw (le-ltb g y (omega arith), lt-ltb y g h) refl

-- one that comes first is there
with_key_there : (g : ℕ) (t : List ℕ) → with_key g (g ∷ t) ≡ g ∷ t
with_key_there g t = rw (le-ltb g g (omega arith)) refl

-- at g itself
pub with_here : (b : Bool) (g : ℕ) (t : List ℕ) → AllKeys (λ x. g < x) t → g ∷ t ≡ with_key g (cond b (g ∷ t) t)
with_here true g t a = sym (with_key_there g t)
with_here false g t a = sym (with_key_first g t a)

-- before g
pub with_before : (b : Bool) (g y : ℕ) (t u : List ℕ) → y < g → u ≡ with_key g t → cond b (y ∷ u) u ≡ with_key g (cond b (y ∷ t) t)
with_before true g y t u h e = ap (λ z. y ∷ z) e ∙ sym (with_key_later g y t h)
with_before false g y t u h e = e

-- the test now holds at g, and elsewhere is as it was
pub filter_with : (p q : ℕ → Bool) (g a n : ℕ) → a ≤ g → g < a + n → q g ≡ true → ((x : ℕ) → (x ≡ g → ⊥) → q x ≡ p x) → filter q (range_with_len a n) ≡ with_key g (filter p (range_with_len a n))
filter_with p q g a zero low high here same = absurd (omega arith)
filter_with p q g a (suc n) low high here same =
    elim (cases_order a g) [
      | inl e ↦ subst (λ (k : ℕ). filter q (range_with_len k (suc n)) ≡ with_key g (filter p (range_with_len k (suc n)))) (sym e) (
          rw (here, filter_same p q (g + 1) n (λ x l h. same x (λ f. omega arith))) (with_here (p g) g (filter p (range_with_len (g + 1) n)) (all_above p g (g + 1) n (omega arith))))
      | inr (inl less) ↦ rw (same a (λ f. omega arith)) (with_before (p a) g a (filter p (range_with_len (a + 1) n)) (filter q (range_with_len (a + 1) n)) less (filter_with p q g (a + 1) n (omega arith) (omega arith) here same))
      | inr (inr more) ↦ absurd (omega arith)
    ]

-- and with false is false
and_false : (b : Bool) → (b && false) ≡ false
and_false true = refl
and_false false = refl

-- and with true is the first
and_true : (b : Bool) → (b && true) ≡ b
and_true true = refl
and_true false = refl

-- a test that leaves one key out takes it away
without_cons : (b c : Bool) (g y : ℕ) (t u : List ℕ) → c ≡ (b && not (eqb y g)) → u ≡ without_key g t → cond c (y ∷ u) u ≡ without_key g (cond b (y ∷ t) t)
without_cons true c g y t u e f = rw (e, f) refl
without_cons false c g y t u e f = rw (e, f) refl

-- a test that differs at one key, there
test_without : (p q : ℕ → Bool) (g y : ℕ) → q g ≡ false → ((x : ℕ) → (x ≡ g → ⊥) → q x ≡ p x) → q y ≡ (p y && not (eqb y g))
test_without p q g y here same =
    elim (cases_order y g) [
      | inl e ↦ rw (eq-eqb y g e, e, here) (sym (and_false (p g)))
      | inr (inl less) ↦ rw (ne_eqb y g (λ f. omega arith), same y (λ f. omega arith)) (sym (and_true (p y)))
      | inr (inr more) ↦ rw (ne_eqb y g (λ f. omega arith), same y (λ f. omega arith)) (sym (and_true (p y)))
    ]

-- the test does not hold at g, and elsewhere is as it was
pub filter_without : (p q : ℕ → Bool) (g : ℕ) (xs : List ℕ) → q g ≡ false → ((x : ℕ) → (x ≡ g → ⊥) → q x ≡ p x) → filter q xs ≡ without_key g (filter p xs)
filter_without p q g [] here same = refl
filter_without p q g (y ∷ t) here same = without_cons (p y) (q y) g y (filter p t) (filter q t) (test_without p q g y here same) (filter_without p q g t here same)
