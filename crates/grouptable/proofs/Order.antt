-- Facts on lists that rise.
use Rattle.std.proofs.Common.{◌≡◌, ℕ, zero, suc, ◌<◌, ◌≤◌, Bool, true, false, cond, ltb, List, [], ◌∷◌, length, get_or, refl, ap, inl, inr, arith}
use Rattle.std.specs.List.{insert, remove, filter}
use Rattle.std.proofs.lemmas.Bool.{lt-ltb, le-ltb, eq-eqb, ne_eqb, ltb-true}
use Rattle.grouptable.specs.Keys.{AllKeys, AreRisingKeys, with_key, without_key}

-- what follows from a fact of each key holds of each
pub AllKeys-map : (P Q : ℕ → Type 0) → ((y : ℕ) → P y → Q y) → (t : List ℕ) → AllKeys P t → AllKeys Q t
AllKeys-map P Q f [] a = tt
AllKeys-map P Q f (y ∷ t) a = (f y a.0, AllKeys-map P Q f t a.1)

-- what holds of all holds of one
AllKeys-at : (P : ℕ → Type 0) (t : List ℕ) (k : ℕ) → AllKeys P t → k < length t → P (get_or t k 0)
AllKeys-at P [] k a h = absurd (omega arith)
AllKeys-at P (y ∷ t) zero a h = a.0
AllKeys-at P (y ∷ t) (suc k) a h = AllKeys-at P t k a.1 (omega arith)

-- it holds once a key is put in of which it does
all_with_key : (P : ℕ → Type 0) (x : ℕ) (t : List ℕ) → P x → AllKeys P t → AllKeys P (with_key x t)
all_with_key P x [] p a = (p, tt)
all_with_key P x (y ∷ t) p a =
    elim (ltb x y) as (λ b. AllKeys P (cond b (x ∷ y ∷ t) (y ∷ cond (ltb y x) (with_key x t) t))) [
      | true ↦ (p, a)
      | false ↦ (a.0, elim (ltb y x) as (λ b. AllKeys P (cond b (with_key x t) t)) [ true ↦ all_with_key P x t p a.1 | false ↦ a.1 ])
    ]

-- a key put in by comparison with the first leaves a rising list
rising_with_cases : (x y : ℕ) (t : List ℕ) (a b : Bool) → ltb x y ≡ a → ltb y x ≡ b → AreRisingKeys (y ∷ t) → AreRisingKeys (with_key x t) → AreRisingKeys (cond a (x ∷ y ∷ t) (y ∷ cond b (with_key x t) t))
rising_with_cases x y t true b p q s u =
    let h : x < y = ltb-true x y p in
    ((h, AllKeys-map (λ z. y < z) (λ z. x < z) (λ z r. omega arith) t s.0), s)
rising_with_cases x y t false true p q s u = (all_with_key (λ z. y < z) x t (ltb-true y x q) s.0, u)
rising_with_cases x y t false false p q s u = s

-- a key put in leaves a rising list
pub rising_with_key : (x : ℕ) (t : List ℕ) → AreRisingKeys t → AreRisingKeys (with_key x t)
rising_with_key x [] s = (tt, tt)
rising_with_key x (y ∷ t) s = rising_with_cases x y t (ltb x y) (ltb y x) refl refl s (rising_with_key x t s.1)

-- what holds of all holds of those that pass a test
pub all_filter : (P : ℕ → Type 0) (p : ℕ → Bool) (t : List ℕ) → AllKeys P t → AllKeys P (filter p t)
all_filter P p [] a = tt
all_filter P p (y ∷ t) a =
    elim (p y) as (λ b. AllKeys P (cond b (y ∷ filter p t) (filter p t))) [ true ↦ (a.0, all_filter P p t a.1) | false ↦ all_filter P p t a.1 ]

-- what passes a test rises still
pub rising_filter : (p : ℕ → Bool) (t : List ℕ) → AreRisingKeys t → AreRisingKeys (filter p t)
rising_filter p [] s = tt
rising_filter p (y ∷ t) s =
    elim (p y) as (λ b. AreRisingKeys (cond b (y ∷ filter p t) (filter p t))) [ true ↦ (all_filter (λ z. y < z) p t s.0, rising_filter p t s.1) | false ↦ rising_filter p t s.1 ]

-- by places
pub rising_at : (t : List ℕ) (i j : ℕ) → AreRisingKeys t → i < j → j < length t → get_or t i 0 < get_or t j 0
rising_at [] i j s p q = absurd (omega arith)
rising_at (y ∷ t) i zero s p q = absurd (omega arith)
rising_at (y ∷ t) zero (suc j) s p q = AllKeys-at (λ z. y < z) t j s.0 (omega arith)
rising_at (y ∷ t) (suc i) (suc j) s p q = rising_at t i j s.1 (omega arith) (omega arith)

-- a rising list rises from any place to a later one
pub rising_le : (t : List ℕ) → AreRisingKeys t → (i j : ℕ) → i ≤ j → j < length t → get_or t i 0 ≤ get_or t j 0
rising_le [] s i j p q = absurd (omega arith)
rising_le (y ∷ t) s zero zero p q = omega arith
rising_le (y ∷ t) s zero (suc j) p q = omega (arith, rising_at (y ∷ t) 0 (suc j) s (omega arith) q)
rising_le (y ∷ t) s (suc i) zero p q = absurd (omega arith)
rising_le (y ∷ t) s (suc i) (suc j) p q = rising_le t s.1 i j (omega arith) (omega arith)

-- what a search by halves finds
pub with_key_absent : (x : ℕ) (t : List ℕ) (at : ℕ) → at ≤ length t → ((k : ℕ) → k < at → get_or t k 0 < x) → ((k : ℕ) → at ≤ k → k < length t → x < get_or t k 0) → with_key x t ≡ insert t at x
with_key_absent x [] zero h below above = refl
with_key_absent x [] (suc at) h below above = absurd (omega arith)
with_key_absent x (y ∷ t) zero h below above = rw (lt-ltb x y (above 0 (omega arith) (omega arith))) refl
with_key_absent x (y ∷ t) (suc at) h below above =
    let first : y < x = below 0 (omega arith) in
    rw (le-ltb x y (omega arith), lt-ltb y x first) (ap (λ z. y ∷ z) (with_key_absent x t at (omega arith) (λ k p. below (suc k) (omega arith)) (λ k p q. above (suc k) (omega arith) (omega arith))))

-- putting in a key that is there changes nothing
pub with_key_present : (x : ℕ) (t : List ℕ) (at : ℕ) → AreRisingKeys t → at < length t → get_or t at 0 ≡ x → with_key x t ≡ t
with_key_present x [] at s h e = absurd (omega arith)
with_key_present x (y ∷ t) zero s h e = rw (le-ltb x y (omega arith), le-ltb y x (omega arith)) refl
with_key_present x (y ∷ t) (suc at) s h e =
    let first : y < get_or t at 0 = rising_at (y ∷ t) 0 (suc at) s (omega arith) h in
    rw (le-ltb x y (omega arith), lt-ltb y x (omega arith)) (ap (λ z. y ∷ z) (with_key_present x t at s.1 (omega arith) e))

-- taking away a key that is nowhere changes nothing
without_key_all : (x : ℕ) (t : List ℕ) → ((k : ℕ) → k < length t → (get_or t k 0 ≡ x) → ⊥) → without_key x t ≡ t
without_key_all x [] other = refl
without_key_all x (y ∷ t) other = rw (ne_eqb y x (other 0 (omega arith))) (ap (λ z. y ∷ z) (without_key_all x t (λ k p. other (suc k) (omega arith))))

-- nor one that would stand between two neighbours
pub without_key_absent : (x : ℕ) (t : List ℕ) (at : ℕ) → ((k : ℕ) → k < at → get_or t k 0 < x) → ((k : ℕ) → at ≤ k → k < length t → x < get_or t k 0) → without_key x t ≡ t
without_key_absent x t at below above = without_key_all x t (λ k p e. elim (Rattle.std.proofs.lemmas.Bool.cases_order k at) [ inl same ↦ (let b : x < get_or t k 0 = above k (omega arith) p in omega arith) | inr (inl less) ↦ (let b : get_or t k 0 < x = below k less in omega arith) | inr (inr more) ↦ (let b : x < get_or t k 0 = above k (omega arith) p in omega arith) ])

-- taking away a key that is there removes it at its place
pub without_key_present : (x : ℕ) (t : List ℕ) (at : ℕ) → AreRisingKeys t → at < length t → get_or t at 0 ≡ x → without_key x t ≡ remove t at
without_key_present x [] at s h e = absurd (omega arith)
without_key_present x (y ∷ t) zero s h e = rw (eq-eqb y x e) (without_key_all x t (λ k p f. let b : y < get_or t k 0 = rising_at (y ∷ t) 0 (suc k) s (omega arith) (omega arith) in omega arith))
without_key_present x (y ∷ t) (suc at) s h e =
    let first : y < get_or t at 0 = rising_at (y ∷ t) 0 (suc at) s (omega arith) h in
    rw (ne_eqb y x (omega arith)) (ap (λ z. y ∷ z) (without_key_present x t at s.1 (omega arith) e))
