-- A list of events goes on by one, and what it leads to keeps the rule.
use Rattle.std.proofs.Common.{◌≡◌, ℕ, zero, suc, ◌<◌, List, [], ◌∷◌, ◌++◌, length, refl, sym, ap, subst, arith}
use mathlib.Core.Option.{some, some-ne-none}
use lib.ListN.{get_elem?}
use Rattle.ticketlock.specs.declared.view.View.{View}
use Rattle.ticketlock.specs.declared.view.Step.{Step}
use Rattle.ticketlock.specs.declared.view.Event.{Event}
use Rattle.ticketlock.specs.declared.view.Event.TheVariants.{Took, CutOff}
use Rattle.ticketlock.specs.Rule.{LockWorld, KeepsRule, Takes}
use Rattle.ticketlock.specs.Law.{made_with, with_cut, Leads}
use Rattle.ticketlock.specs.Traces.{IsReachedBy}
use Rattle.ticketlock.proofs.Made.{starts_made, lasts_made}

-- where events have led, one more step leads on
leads_then : (w : LockWorld) (events : List Event) (mid : LockWorld) (s : Step) (seat : ℕ) (v : View) (next : LockWorld) → Leads w events mid → get_elem? mid.views seat ≡ some v → Takes s mid seat v next
    → Leads w (events ++ Took s seat ∷ []) next
leads_then w [] mid s seat v next run at t =
    (next, v, subst (λ (x : LockWorld). get_elem? x.views seat ≡ some v) run at, subst (λ (x : LockWorld). Takes s x seat v next) run t, refl)
leads_then w (Took r k ∷ events) mid s seat v next run at t = (run.0, run.1, run.2, run.3, leads_then run.0 events mid s seat v next run.4 at t)
leads_then w (CutOff k ∷ events) mid s seat v next run at t = (run.0, run.1, run.2, leads_then (with_cut w k run.0) events mid s seat v next run.3 at t)

-- and so does a seat that is cut off
leads_cut : (w : LockWorld) (events : List Event) (mid : LockWorld) (seat : ℕ) (v : View) → Leads w events mid → get_elem? mid.views seat ≡ some v → 0 < v.spare → Leads w (events ++ CutOff seat ∷ []) (with_cut mid seat v)
leads_cut w [] mid seat v run at spare = (v, subst (λ (x : LockWorld). get_elem? x.views seat ≡ some v) run at, spare, ap (λ (x : LockWorld). with_cut x seat v) run)
leads_cut w (Took r k ∷ events) mid seat v run at spare = (run.0, run.1, run.2, run.3, leads_cut run.0 events mid seat v run.4 at spare)
leads_cut w (CutOff k ∷ events) mid seat v run at spare = (run.0, run.1, run.2, leads_cut (with_cut w k run.0) events mid seat v run.3 at spare)

-- the law, used: what is reached keeps the rule
pub reached_keeps : (seats : ℕ) (events : List Event) (w : LockWorld) → IsReachedBy seats events w → KeepsRule w
reached_keeps seats events w r = lasts_made (made_with seats) events w (starts_made seats r.0 r.1) r.2

-- what is reached, and a step more, is reached
pub reached_then : (seats : ℕ) (events : List Event) (w : LockWorld) (s : Step) (seat : ℕ) (v : View) (next : LockWorld) → IsReachedBy seats events w → get_elem? w.views seat ≡ some v → Takes s w seat v next → IsReachedBy seats (events ++ Took s seat ∷ []) next
reached_then seats events w s seat v next r at t = (r.0, r.1, leads_then (made_with seats) events w s seat v next r.2 at t)

-- what is reached, and a seat cut off, is reached
pub reached_cut : (seats : ℕ) (events : List Event) (w : LockWorld) (seat : ℕ) (v : View) → IsReachedBy seats events w → get_elem? w.views seat ≡ some v → 0 < v.spare → IsReachedBy seats (events ++ CutOff seat ∷ []) (with_cut w seat v)
reached_cut seats events w seat v r at spare = (r.0, r.1, leads_cut (made_with seats) events w seat v r.2 at spare)

-- where a view stands there is one
pub within : {X : Type 0} (l : List X) (i : ℕ) (v : X) → get_elem? l i ≡ some v → i < length l
within [] i v e = absurd (some-ne-none v (sym e))
within (x ∷ xs) zero v e = omega arith
within (x ∷ xs) (suc i) v e = let h = within xs i v e in omega arith
