-- What a crash leaves of a monitor's journal is a journal that a monitor may have.
use Rattle.std.proofs.Common.{◌≡◌, inl, inr, zero, suc, ◌+◌, ◌<◌, ◌^◌, List, [], ◌∷◌, ◌++◌, None, sym, subst, arith}
use Rattle.std.specs.List.{All}
use Rattle.std.proofs.lemmas.List.Elements.{All-append}
use Rattle.maptypes.specs.Incrementals.{Step}
use Rattle.maptypes.specs.Ordered.{IsChange}
use Rattle.osdmap.specs.Maps.{ClusterMap}
use Rattle.osdmap.specs.Changes.{change_fault, apply, after, IsLawful}
use Rattle.epochlog.specs.Journals.{Journal, with_step, Follows, IsIncremental, HasAll}
use Rattle.mapstore_laws.specs.OpeningLaws.{IsOfMonitor}

-- what holds of one incremental holds of each of it alone
alone : (P : Step → Type 0) (step : Step) → P step → All P (step ∷ [])
alone P step holds zero d inside = holds
alone P step holds (suc i) d inside = absurd (omega (arith, inside))

-- a lawful journal with one more, which the map after it does not refuse
lawful_with : (first : ClusterMap) (steps : List Step) (step : Step) → IsLawful first steps → step.epoch ≡ (after first steps).epoch + 1
    → change_fault (after first steps) step.change ≡ None → IsLawful first (steps ++ step ∷ [])
unfolding IsLawful
lawful_with first [] step lawful next fine = (next, fine, tt)
lawful_with first (s ∷ steps) step lawful next fine = (lawful.0, lawful.1, lawful_with (apply first s) steps step lawful.2 next fine)

-- a monitor may have the journal with the next incremental
next_of_monitor : (j : Journal) (step : Step) → IsOfMonitor j → Follows j step → IsIncremental step → IsOfMonitor (with_step j step)
next_of_monitor j step of next is = record {
  epoch = of.epoch;
  changes = All-append (λ (s : Step). IsChange s.change) j.steps (step ∷ []) of.changes (alone (λ (s : Step). IsChange s.change) step is.0);
  lawful = lawful_with j.first j.steps step of.lawful next.epoch next.lawful;
  numbers = All-append (λ (s : Step). s.epoch < 2 ^ 64) j.steps (step ∷ []) of.numbers (alone (λ (s : Step). s.epoch < 2 ^ 64) step is.1);
}

-- what is left of its journal
pub left_of_monitor : (j left : Journal) → IsOfMonitor j → HasAll j left → IsOfMonitor left
left_of_monitor j left of (inl same) = subst IsOfMonitor (sym same) of
left_of_monitor j left of (inr (step, next, is, more)) = subst IsOfMonitor (sym more) (next_of_monitor j step of next is)
