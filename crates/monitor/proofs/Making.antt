-- Which epoch a commit makes: one of the row's.
use Rattle.std.proofs.Common.{◌≡◌, ◌≢◌, ◌<◌, ◌==◌, if◌then◌else◌, IfOk, Result, Ok, Err, inl, inr, ℕ, Bool, true, false, not, nat_lt, List, length, Option, Some, None, arith, refl}
use Rattle.std.proofs.lemmas.Bool.{ltb-true}
use Rattle.refusal.specs.declared.refused.Refusal.{Refusal}
use Rattle.refusal.specs.declared.refused.Refusal.TheVariants.{StaleEpoch, JournalFull}
use Rattle.maptypes.specs.declared.change.ChangeParts.{ChangeParts}
use Rattle.maptypes.specs.Incrementals.{Step}
use Rattle.osdmap.specs.Maps.{ClusterMap}
use Rattle.osdmap.specs.Changes.{change_fault}
use Rattle.state.specs.States.{commit_fault, unless}
use Rattle.balancer.specs.Shares.{Aim}
use Rattle.state.specs.declared.state.Commit.{Commit}
use Rattle.state.specs.declared.balancing.Balance.{Balance}
use Rattle.monitor.specs.Histories.{IsCommitted, AnswersCommit, AnswersApply}
use Rattle.monitor.specs.Balances.{IsPlanned, AnswersBalance}
use Rattle.monitor.specs.Making.{IsOfRow}

-- where nothing refuses a change, the journal has room
has_room : (m : ClusterMap) (done most base : ℕ) (change : ChangeParts) → commit_fault m done most base change ≡ None → done < most
unfolding commit_fault
has_room m done most base change none = room (base == m.epoch) (change_fault m change) (nat_lt done most) refl none
  where
    room : (at : Bool) (fault : Option Refusal) (less : Bool) → nat_lt done most ≡ less
        → (if not at then Some (StaleEpoch m.epoch) else unless fault (if less then None else Some JournalFull)) ≡ None → done < most
    room true None true is none = ltb-true done most is
    room true None false is none = cc
    room true (Some e) less is none = cc
    room false fault less is none = cc

-- the epoch of a commit is one of the row's
commit_of_row : (first : ClusterMap) (most : ℕ) (before now : List Step) (base : ℕ) (change : ChangeParts) (epoch evals : ℕ)
    → IsCommitted first most before now base change epoch evals → IsOfRow first.epoch most epoch
commit_of_row first most before now base change epoch evals made =
    let room = has_room _ (length made.found) most base change made.accepted in
    record { after = omega (arith, made.based, made.next); within = omega (arith, made.based, made.next, room) }

-- so is that of a plan with moves
plan_of_row : (first : ClusterMap) (most : ℕ) (before now : List Step) (pool : ℕ) (aim : Aim) (limit epoch moves : ℕ)
    → IsPlanned first most before now pool aim limit epoch moves → IsOfRow first.epoch most epoch
plan_of_row first most before now pool aim limit epoch moves made =
    let room = has_room _ (length made.found) most _ _ made.accepted in
    record { after = omega (arith, made.next); within = omega (arith, made.next, room) }

-- what a commit answers tells an epoch of the row, if any
pub commit_marks : (n k : ℕ) (first : ClusterMap) (most : ℕ) (before now : List Step) (base : ℕ) (change : ChangeParts) (r : Result Commit Refusal)
    → n ≡ first.epoch → k ≡ most → AnswersCommit first most before now base change r → IfOk r (λ ok. IsOfRow n k ok.epoch)
commit_marks n k first most before now base change (Ok ok) at many answers =
    rw (at, many) (commit_of_row first most before now base change ok.epoch ok.evals answers.1)
commit_marks n k first most before now base change (Err e) at many answers = tt

-- so does what a change without a base answers
pub apply_marks : (n k : ℕ) (first : ClusterMap) (most : ℕ) (before now : List Step) (change : ChangeParts) (r : Result Commit Refusal)
    → n ≡ first.epoch → k ≡ most → AnswersApply first most before now change r → IfOk r (λ ok. IsOfRow n k ok.epoch)
apply_marks n k first most before now change (Ok ok) at many answers =
    rw (at, many) (commit_of_row first most before now answers.1.0 change ok.epoch ok.evals answers.1.1)
apply_marks n k first most before now change (Err e) at many answers = tt

-- so does what a plan answers
pub plan_marks : (n k : ℕ) (first : ClusterMap) (most : ℕ) (before now : List Step) (pool : ℕ) (aim : Aim) (limit : ℕ) (r : Result Balance Refusal)
    → n ≡ first.epoch → k ≡ most → AnswersBalance first most before now pool aim limit r → IfOk r (λ ok. ok.moves ≢ 0 → IsOfRow n k ok.epoch)
plan_marks n k first most before now pool aim limit (Ok ok) at many answers = λ some. elim answers.1 [
  | inl planned ↦ rw (at, many) (plan_of_row first most before now pool aim limit ok.epoch ok.moves planned)
  | inr even ↦ absurd (some even.none)
]
plan_marks n k first most before now pool aim limit (Err e) at many answers = tt
