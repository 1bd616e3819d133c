-- A commit that nothing refuses, from the seal on.
use Rattle.std.proofs.Common.{◌≡◌, ◌∙◌, ap, sym, subst, ℕ, ◌+◌, ◌-◌, ◌^◌, ◌<◌, ◌≤◌, [], ◌∷◌, ◌++◌, length, arith, None, Some, slice_get}
use Rattle.maptypes.specs.declared.change.ChangeParts.{ChangeParts}
use Rattle.maptypes.specs.Incrementals.{Step}
use Rattle.osdmap.specs.Maps.{ClusterMap}
use Rattle.osdmap.specs.Changes.{change_fault}
use Rattle.epochlog.specs.Epochs.{Seen, longer, epoch_of}
use Rattle.pgtable.specs.Tables.{TableFacts}
use Rattle.epochlog.specs.Journals.{with_step, Follows}
use Rattle.state.specs.States.{StateFacts, journal, IsKept, max_epoch, next_step, longer_by}
use Rattle.state.proofs.Journals.{IsAccepted, step_is, joined_is, shown_is, last_epoch-snoc, epoch-kept}

-- an epoch that a journal has room after is far from the end of 64 bits
pub early_fits : (epoch : ℕ) → epoch ≤ max_epoch → epoch + 1 < 2 ^ 64
early_fits epoch early = omega arith

-- the incremental of an accepted change is the next of the journal
pub follows : (k : StateFacts) (t : TableFacts) (base : ℕ) (change : ChangeParts) (step : Step) → IsKept k t → IsAccepted k base change → step ≡ next_step k.map change
    → Follows (journal k.first k.pass.history) step
follows k t base change step kept ok is = subst (Follows (journal k.first k.pass.history)) (sym is) (record {
  epoch = ap (λ (m : ClusterMap). m.epoch + 1) kept.map;
  lawful = subst (λ (m : ClusterMap). change_fault m change ≡ None) kept.map ok.fine;
})

-- what holds once the epoch is sealed and the state's pass has joined the one that sealed it
pub record IsSealed (k : StateFacts) (base : ℕ) (change : ChangeParts) (after : Seen) : Type 0 where
  pub joined : after ≡ longer_by k.pass (next_step k.map change)
  pub later : k.pass.row.first < base + 1
  pub seen : epoch_of after ≡ base + 1
  pub shown : (step : Step) → slice_get after.history ((base + 1) - (k.pass.row.first + 1)) ≡ Some step → step ≡ next_step k.map change

-- after an accepted change is sealed and joined the state's pass has seen its journal with this incremental behind
pub sealed : (k : StateFacts) (t : TableFacts) (base : ℕ) (change : ChangeParts) (step : Step) (pass joined : Seen) → IsKept k t → IsAccepted k base change
    → step ≡ record { epoch = base + 1; change = change } → pass.history ≡ k.pass.history ++ step ∷ [] → joined.row ≡ k.pass.row
    → joined.history ≡ longer k.pass.history pass.history → IsSealed k base change joined
sealed k t base change step pass joined kept ok is more row join =
    let next = step_is k base change step ok.current is in
    let all = joined_is k.pass step pass joined more row join in
    let place : (base + 1) - (k.pass.row.first + 1) ≡ length k.pass.history = omega (arith, ok.current, epoch-kept k t kept, kept.begins) in
    record {
      joined = all ∙ ap (longer_by k.pass) next;
      later = omega (arith, ok.current, epoch-kept k t kept, kept.begins);
      seen = ap epoch_of all ∙ last_epoch-snoc k.pass.row.first k.pass.history step ∙ ap (λ (s : Step). s.epoch) is;
      shown = λ found at. shown_is k.pass step found joined _ all place at ∙ next;
    }

-- a journal that is kept with the incremental is that of the pass that has joined it
pub journal_kept : (first : ClusterMap) (pass joined : Seen) (step next : Step) → step ≡ next → joined ≡ longer_by pass next
    → with_step (journal first pass.history) step ≡ journal first joined.history
journal_kept first pass joined step next is join =
    ap (λ s. with_step (journal first pass.history) s) is ∙ ap (λ (s : Seen). journal first s.history) (sym join)
