-- One history: what a member has seen before a call and after it, and what the call answers by that.
use Rattle.std.specs.Prelude.{◌≡◌, ◌⊎◌, ℕ, ◌+◌, List, [], ◌∷◌, ◌++◌, length, nat_lt, Option, None, Some, Result, Err, MatchResult, if◌then◌else◌}
use Rattle.refusal.specs.declared.refused.Refusal.{Refusal}
use Rattle.refusal.specs.declared.refused.Refusal.TheVariants.{JournalFull, SeatSpent}
use Rattle.maptypes.specs.declared.change.ChangeParts.{ChangeParts}
use Rattle.maptypes.specs.Incrementals.{Step}
use Rattle.osdmap.specs.Maps.{ClusterMap}
use Rattle.osdmap.specs.Evals.{evals_of}
use Rattle.osdmap.specs.Changes.{change_fault, after, IsLawful, epoch_after}
use Rattle.epochlog.specs.Epochs.{Begins}
use Rattle.state.specs.declared.state.Commit.{Commit}
use Rattle.state.specs.States.{unless, commit_fault, IsRefusedBy}

-- a history goes on: the one before begins it, and it is lawful from the first map
pub record GoesOn (first : ClusterMap) (before now : List Step) : Type 0 where
  pub begins : Begins before now
  pub lawful : IsLawful first now

-- what a look-up answers: the answer by the map after the history that its member has seen then, which goes on from the
-- one before; or that its seat has made its draws
abbrev pub Looks : {X : Type 0} → ClusterMap → List Step → List Step → (ClusterMap → Result X Refusal → Type 0)
    → Result X Refusal → Type 0
Looks first before now finds r = GoesOn first before now × ((r ≡ Err SeatSpent) ⊎ finds (after first now) r)

-- a change is committed: to the map after some history, which goes on from the one before; the history now is that one
-- with the incremental at its end
pub record IsCommitted (first : ClusterMap) (most : ℕ) (before now : List Step) (base : ℕ) (change : ChangeParts)
    (epoch evals : ℕ) : Type 0 where
  pub found : List Step
  pub goes_on : Begins before found
  pub ends : now ≡ found ++ record { epoch = epoch; change = change } ∷ []
  pub based : base ≡ epoch_after first found
  pub next : epoch ≡ base + 1
  pub counted : evals ≡ evals_of (after first now) change
  pub accepted : commit_fault (after first found) (length found) most base change ≡ None

-- what a commit answers: that the change is committed; or the fault at the history now, or where there is none that
-- memory was short or another sealed the epoch; or that its seat has made its draws
abbrev pub AnswersCommit : ClusterMap → ℕ → List Step → List Step → ℕ → ChangeParts → Result Commit Refusal → Type 0
AnswersCommit first most before now base change r =
    GoesOn first before now
    × MatchResult r (λ ok. IsCommitted first most before now base change ok.epoch ok.evals)
    (λ e. (e ≡ SeatSpent) ⊎ IsRefusedBy (commit_fault (after first now) (length now) most base change) e)

-- the first refusal that applies to a change without a base, at a map after so many changes of at most so many: what
-- refuses the change; the journal is full
abbrev pub present_fault : ClusterMap → ℕ → ℕ → ChangeParts → Option Refusal
present_fault m done most change = unless (change_fault m change) (if nat_lt done most then None else Some JournalFull)

-- what a change without a base answers: that it is committed, with the epoch of the map that was found as its base; or
-- the fault at the history now, or where there is none that memory was short or another sealed the epoch; or that its
-- seat has made its draws
abbrev pub AnswersApply : ClusterMap → ℕ → List Step → List Step → ChangeParts → Result Commit Refusal → Type 0
AnswersApply first most before now change r =
    GoesOn first before now
    × MatchResult r (λ ok. (base : ℕ) × IsCommitted first most before now base change ok.epoch ok.evals)
    (λ e. (e ≡ SeatSpent) ⊎ IsRefusedBy (present_fault (after first now) (length now) most change) e)

-- a history is longer by the incremental of a change that was accepted, and by nothing else
abbrev pub AddsChange : List Step → List Step → ChangeParts → Result Commit Refusal → Type 0
AddsChange before now change r =
    MatchResult r (λ ok. now ≡ before ++ record { epoch = ok.epoch; change = change } ∷ []) (λ e. now ≡ before)
