-- How many changes an answer has made.
use Rattle.std.proofs.Common.{◌≡◌, ◌≢◌, ◌==◌, ◌∙◌, ◌+◌, ℕ, Bool, List, length, length-append, Result, Ok, Err, inl, inr, arith, ap, if◌then◌else◌}
use Rattle.std.proofs.lemmas.Bool.{ne_eqb}
use Rattle.refusal.specs.declared.refused.Refusal.{Refusal}
use Rattle.maptypes.specs.declared.change.ChangeParts.{ChangeParts}
use Rattle.maptypes.specs.Incrementals.{Step}
use Rattle.osdmap.specs.Maps.{ClusterMap}
use Rattle.balancer.specs.Shares.{Aim}
use Rattle.state.specs.declared.state.Commit.{Commit}
use Rattle.state.specs.declared.balancing.Balance.{Balance}
use Rattle.monitor.specs.Histories.{AddsChange}
use Rattle.monitor.specs.Balances.{AddsPlan}
use Rattle.monitor.specs.Making.{commits_made, plans_made}

-- a history is longer by as many changes as an answer has made
pub commit_longer : (before now : List Step) (change : ChangeParts) (r : Result Commit Refusal) → AddsChange before now change r
    → length now ≡ length before + commits_made r
commit_longer before now change (Ok ok) adds = ap length adds ∙ length-append before _
commit_longer before now change (Err e) adds = omega (arith, ap length adds)

-- how many epochs a number of moves makes: one, unless it is 0
abbrev made : ℕ → ℕ
made n = if n == 0 then 0 else 1

-- any move makes one
one_made : (n : ℕ) → n ≢ 0 → made n ≡ 1
one_made n some = ap (λ (b : Bool). if b then 0 else 1) (ne_eqb n 0 some)

-- a plan makes the history longer by the epochs that it has made
pub plan_longer : (first : ClusterMap) (before now : List Step) (pool : ℕ) (aim : Aim) (limit : ℕ) (r : Result Balance Refusal)
    → AddsPlan first before now pool aim limit r → length now ≡ length before + plans_made r
plan_longer first before now pool aim limit (Ok ok) adds = elim adds [
  | inl none ↦ let none_made : made ok.moves ≡ 0 = ap made none.0 in omega (arith, ap length none.1, none_made)
  | inr some ↦ omega (arith, ap length some.1 ∙ length-append before _, one_made ok.moves some.0)
]
plan_longer first before now pool aim limit (Err e) adds = omega (arith, ap length adds)
