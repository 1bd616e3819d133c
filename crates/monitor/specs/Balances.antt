-- Balancing by a member: what the call answers, by one history.
use Rattle.std.specs.Prelude.{◌≡◌, ◌≢◌, ◌⊎◌, ℕ, ◌+◌, List, [], ◌∷◌, ◌++◌, length, None, Some, Result, MatchResult}
use Rattle.refusal.specs.declared.refused.Refusal.{Refusal}
use Rattle.refusal.specs.declared.refused.Refusal.TheVariants.{Memory as OutOfMemory, SeatSpent}
use Rattle.maptypes.specs.Incrementals.{Step}
use Rattle.osdmap.specs.Maps.{ClusterMap}
use Rattle.osdmap.specs.Changes.{after, epoch_after}
use Rattle.epochlog.specs.Epochs.{Begins}
use Rattle.balancer.specs.Shares.{Aim}
use Rattle.balancer.specs.Plans.{plan_fault, plan_change}
use Rattle.state.specs.declared.balancing.Balance.{Balance}
use Rattle.state.specs.States.{commit_fault, IsRefusedBy}
use Rattle.state.specs.Balances.{moves_in}
use Rattle.monitor.specs.Histories.{GoesOn}

-- a plan with moves is committed to the map after some history, which goes on from the one before; the history now is
-- that one with the incremental of the plan's change at its end
pub record IsPlanned (first : ClusterMap) (most : ℕ) (before now : List Step) (pool : ℕ) (aim : Aim)
    (limit number moves : ℕ) : Type 0 where
  pub found : List Step
  pub goes_on : Begins before found
  pub ends : now ≡ found ++ record { epoch = number; change = plan_change (after first found) pool aim limit } ∷ []
  pub next : number ≡ epoch_after first found + 1
  pub sound : plan_fault (after first found) pool ≡ None
  pub some : moves ≢ 0
  pub counted : moves ≡ moves_in (after first found) pool aim limit
  pub accepted : commit_fault (after first found) (length found) most (epoch_after first found)
      (plan_change (after first found) pool aim limit) ≡ None

-- no move is good at the map after the history now, whose epoch is the answer
pub record IsEven (first : ClusterMap) (now : List Step) (pool : ℕ) (aim : Aim) (limit number moves : ℕ) :
    Type 0 where
  pub sound : plan_fault (after first now) pool ≡ None
  pub epoch : number ≡ epoch_after first now
  pub none : moves ≡ 0
  pub counted : moves_in (after first now) pool aim limit ≡ 0

-- why there is no answer at a history: what refuses the plan; else that memory was short, or where a move is good what
-- refuses its commit
abbrev pub IsUnplanned : ClusterMap → ℕ → List Step → ℕ → Aim → ℕ → Refusal → Type 0
IsUnplanned first most now pool aim limit e =
    (plan_fault (after first now) pool ≡ Some e)
    ⊎ ((plan_fault (after first now) pool ≡ None)
    × ((e ≡ OutOfMemory)
    ⊎ ((moves_in (after first now) pool aim limit ≢ 0)
    × IsRefusedBy (commit_fault (after first now) (length now) most (epoch_after first now)
    (plan_change (after first now) pool aim limit)) e)))

-- what balancing answers: that the plan is committed, or that no move is good; or why there is no answer at the history
-- now, or that its seat has made its draws
abbrev pub AnswersBalance : ClusterMap → ℕ → List Step → List Step → ℕ → Aim → ℕ → Result Balance Refusal → Type 0
AnswersBalance first most before now pool aim limit r =
    GoesOn first before now
    × MatchResult r
    (λ ok. IsPlanned first most before now pool aim limit ok.epoch ok.moves
    ⊎ IsEven first now pool aim limit ok.epoch ok.moves)
    (λ e. (e ≡ SeatSpent) ⊎ IsUnplanned first most now pool aim limit e)

-- a history is longer by the incremental of a plan's change where moves were told, and by nothing else
abbrev pub AddsMoves : ClusterMap → List Step → List Step → ℕ → Aim → ℕ → ℕ → ℕ → Type 0
AddsMoves first before now pool aim limit number moves =
    ((moves ≡ 0) × (now ≡ before))
    ⊎ ((moves ≢ 0)
    × (now ≡ before ++ record { epoch = number; change = plan_change (after first before) pool aim limit } ∷ []))

-- a plan adds the change of its moves, if it has any; what is refused adds nothing
abbrev pub AddsPlan : ClusterMap → List Step → List Step → ℕ → Aim → ℕ → Result Balance Refusal → Type 0
AddsPlan first before now pool aim limit r =
    MatchResult r (λ ok. AddsMoves first before now pool aim limit ok.epoch ok.moves) (λ e. now ≡ before)
