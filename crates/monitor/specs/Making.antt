-- Which epochs of a row a member has made. The row begins after a first epoch.
use Rattle.std.specs.Prelude.{◌≡◌, ◌<◌, ◌≤◌, ◌+◌, ◌-◌, ◌==◌, ℕ, Option, Some, None, List, Bool, true, Result, Ok, Err, MatchResult, slice_set, if◌then◌else◌}
use Rattle.refusal.specs.declared.refused.Refusal.{Refusal}
use Rattle.state.specs.declared.state.Commit.{Commit}
use Rattle.state.specs.declared.balancing.Balance.{Balance}

-- an epoch is one of a row with so many
pub record IsOfRow (first count epoch : ℕ) : Type 0 where
  pub after : first < epoch
  pub within : epoch ≤ first + count

-- the marks of the epochs that a member has made, with this one, if any
abbrev pub with_made : ℕ → List Bool → Option ℕ → List Bool
with_made first own None = own
with_made first own (Some epoch) = slice_set own (epoch - first - 1) true

-- the epoch that a plan has made, which has one where it has moves
abbrev pub planned_epoch : Balance → Option ℕ
planned_epoch plan = if plan.moves == 0 then None else Some plan.epoch

-- how many epochs an answer has made
abbrev pub commits_made : Result Commit Refusal → ℕ
commits_made (Ok ok) = 1
commits_made (Err e) = 0

-- how many epochs the answer to a plan has made
abbrev pub plans_made : Result Balance Refusal → ℕ
plans_made (Ok ok) = if ok.moves == 0 then 0 else 1
plans_made (Err e) = 0

-- a member has made the epoch that an answer tells, if it tells one, and no other; at a refusal it has made none
abbrev pub HasMade : {X : Type 0} → ℕ → List Bool → List Bool → (X → Option ℕ) → Result X Refusal → Type 0
HasMade first before after made r =
    MatchResult r (λ x. after ≡ with_made first before (made x)) (λ e. after ≡ before)
