-- The rule holds where a lock is made, and after every list of steps and cuts.
use Rattle.std.proofs.Common.{◌≡◌, ℕ, zero, suc, ◌<◌, ◌≤◌, List, [], ◌∷◌, sym, refl, ap, subst, arith}
use mathlib.Core.Option.{some, some-injective, some-ne-none}
use lib.ListN.{get_elem?}
use Rattle.ticketlock.specs.declared.view.View.{View}
use Rattle.ticketlock.specs.Rule.{LockWorld, IsInTurn, KeepsRule}
use Rattle.ticketlock.specs.Places.{opener}
use Rattle.ticketlock.specs.declared.view.Event.{Event}
use Rattle.ticketlock.specs.declared.view.Event.TheVariants.{Took, CutOff}
use Rattle.ticketlock.specs.Law.{made_with, Leads}
use Rattle.ticketlock.proofs.Steps.{step_keeps}
use Rattle.ticketlock.proofs.Cutting.{cut_keeps}

-- the one in a list of one
only : (x : View) (i : ℕ) (v : View) → get_elem? (x ∷ []) i ≡ some v → x ≡ v
only x zero v e = some-injective x v e
only x (suc i) v e = absurd (some-ne-none v (sym e))

-- the world that a lock is made with keeps the rule
pub starts_made : (seats : ℕ) → 0 < seats → seats ≤ 1024 → KeepsRule (made_with seats)
starts_made seats one few = record {
  order = (omega arith, omega arith);
  tickets = record {
    once = λ t low high. absurd (omega arith);
    none_past = λ t low. absurd (omega arith);
    none_yet = λ t high. refl;
  };
  insiders = refl;
  served = λ j u e. subst (λ (v : View). IsInTurn 0 0 v.stage) (only (opener seats) j u e) tt;
  counted = record {
    sum = refl;
    limit = λ j u e. let c : 0 ≡ u.draws = ap (λ (v : View). v.draws) (only (opener seats) j u e) in omega arith;
    seats = omega arith;
  };
}

-- a list of steps and cuts keeps the rule
pub lasts_made : (w : LockWorld) (events : List Event) (last : LockWorld) → KeepsRule w → Leads w events last → KeepsRule last
lasts_made w [] last k run = subst KeepsRule (sym run) k
lasts_made w (Took s seat ∷ events) last k run = lasts_made run.0 events last (step_keeps s w seat run.1 run.0 k run.2 run.3) run.4
lasts_made w (CutOff seat ∷ events) last k run = lasts_made _ events last (cut_keeps w seat run.0 k run.1 run.2) run.3
