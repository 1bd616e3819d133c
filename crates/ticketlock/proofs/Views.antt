-- What a change of one view does to facts about all.
use Rattle.std.proofs.Common.{◌≡◌, ◌≢◌, ℕ, zero, suc, ◌+◌, ◌^◌, ◌≤◌, ◌==◌, ◌⊎◌, inl, inr, ⊎_elim, List, [], ◌∷◌, length, set, refl, ap, subst, eq-eqb, ne_eqb, if◌then◌else◌, arith}
use mathlib.Core.Option.{some}
use mathlib.Core.Logic.{dite}
use native.Mathlib.Decide.{ℕ_discrete, dec_lt}
use lib.ListN.{get_elem?}
use Rattle.atomic_table.proofs.Lists.{at_set}
use Rattle.ticketlock.specs.declared.view.View.{View}
use Rattle.ticketlock.specs.Rule.{LockWorld, Each, has, total, CountsDraws, IsHeldOnce}
use Rattle.ticketlock.proofs.Totals.{total_stays, part_of}

-- 1 where k is t, and else 0
abbrev pub one : ℕ → ℕ → ℕ
one t k = if k == t then 1 else 0

-- it is 1 or 0
pub is_at : (t k : ℕ) → ((k ≡ t) × (one t k ≡ 1)) ⊎ ((k ≢ t) × (one t k ≡ 0))
is_at t k = dite (ℕ_discrete k t) (λ e. inl (e, rw (eq-eqb k t e) refl)) (λ n. inr (n, rw (ne_eqb k t n) refl))

-- it is 1 at itself
pub at_one : (t : ℕ) → one t t ≡ 1
at_one t = ⊎_elim (λ x. x.1) (λ x. absurd (x.0 refl)) (is_at t t)

-- a fact of each view survives a change of one
pub each_set : (P : View → Type 0) (views : List View) (seat : ℕ) (w : View) → P w → ((j : ℕ) (u : View) → j ≢ seat → get_elem? views j ≡ some u → P u) → Each P (set views seat w)
each_set P views seat w mine others j u e = ⊎_elim (λ (x : (j ≡ seat) × (w ≡ u)). subst P x.1 mine) (λ (x : (j ≢ seat) × (get_elem? views j ≡ some u)). others j u x.0 x.1) (at_set views seat j w u e)

-- so does their number
pub length_set : (views : List View) (seat : ℕ) (w : View) → length (set views seat w) ≡ length views
length_set [] seat w = refl
length_set (x ∷ xs) zero w = refl
length_set (x ∷ xs) (suc i) w = ap suc (length_set xs i w)

-- so does the bound on seats, where as many may still be cut off
pub seats_stay : (views : List View) (seat : ℕ) (v w : View) → get_elem? views seat ≡ some v → w.spare ≡ v.spare → length views + total (λ u. u.spare) views ≤ 1024
    → length (set views seat w) + total (λ u. u.spare) (set views seat w) ≤ 1024
seats_stay views seat v w at e few = let l = length_set views seat w in let s = total_stays (λ u. u.spare) views seat v w at e in omega arith

-- a step that is no draw leaves the count of draws
pub counted_stays : (w : LockWorld) (seat : ℕ) (v new : View) → get_elem? w.views seat ≡ some v → new.draws ≡ v.draws → new.spare ≡ v.spare → CountsDraws w → (r a : ℕ)
    → CountsDraws (record { draw_word = w.draw_word; reader_word = r; writer_word = a; views = set w.views seat new })
counted_stays w seat v new at same_draws same_spare c r a = record {
  sum = let s = total_stays (λ u. u.draws) w.views seat v new at same_draws in let q = c.sum in omega arith;
  limit = each_set (λ u. u.draws ≤ 2 ^ 40) w.views seat new (let l = c.limit seat v at in omega arith) (λ j u _ e. c.limit j u e);
  seats = seats_stay w.views seat v new at same_spare c.seats;
}

-- a step that takes and gives no ticket leaves who holds them
pub tickets_stay : (w : LockWorld) (seat : ℕ) (v new : View) → get_elem? w.views seat ≡ some v → ((t : ℕ) → has t new.stage ≡ has t v.stage) → IsHeldOnce w → (a : ℕ)
    → IsHeldOnce (record { draw_word = w.draw_word; reader_word = w.reader_word; writer_word = a; views = set w.views seat new })
tickets_stay w seat v new at same h a = record {
  once = λ t low high. let s = total_stays (λ u. has t u.stage) w.views seat v new at (same t) in let o = h.once t low high in omega arith;
  none_past = λ t low. let s = total_stays (λ u. has t u.stage) w.views seat v new at (same t) in let o = h.none_past t low in omega arith;
  none_yet = λ t high. let s = total_stays (λ u. has t u.stage) w.views seat v new at (same t) in let o = h.none_yet t high in omega arith;
}

-- a ticket that a seat has may still enter
pub not_past : (w : LockWorld) (seat : ℕ) (v : View) (t : ℕ) → IsHeldOnce w → get_elem? w.views seat ≡ some v → has t v.stage ≡ 1 → w.reader_word ≤ t
not_past w seat v t k at mine = let p = part_of (λ u. has t u.stage) w.views seat v at in
    dite (dec_lt t w.reader_word) (λ h. let z = k.none_past t h in absurd (omega arith)) (λ h. omega arith)
