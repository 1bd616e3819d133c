-- Balancing: a plan and its commit, at one epoch.
use Rattle.std.specs.Prelude.{◌≡◌, ◌≢◌, ◌⊎◌, ℕ, ◌+◌, None, Some, length, false, Result, IfErr, MatchResult}
use Rattle.refusal.specs.declared.refused.Refusal.{Refusal}
use Rattle.refusal.specs.declared.refused.Refusal.TheVariants.{Memory as OutOfMemory}
use Rattle.osdmap.specs.Maps.{ClusterMap}
use Rattle.osdmap.specs.Evals.{evals_of}
use Rattle.balancer.specs.Shares.{Aim}
use Rattle.balancer.specs.Plans.{plan_fault, plan_change, plan_moves}
use Rattle.state.specs.declared.balancing.Balance.{Balance}
use Rattle.state.specs.States.{StateFacts, fault_in, ran, committed, IsUnchangedBy, IsRefusedBy}

-- how many moves the greedy plan has
abbrev pub moves_in : ClusterMap → ℕ → Aim → ℕ → ℕ
moves_in m pool aim limit = length (plan_moves m pool aim limit)

-- nothing is moved, as no move is good; or the change of the greedy plan is committed to the present map: the plan
-- takes no run, and the commit one for each evaluation
abbrev pub IsBalanced : StateFacts → StateFacts → ℕ → Aim → ℕ → ℕ → Type 0
IsBalanced old new pool aim limit epoch =
    ((moves_in old.map pool aim limit ≡ 0) × (epoch ≡ old.map.epoch) × (new ≡ old))
    ⊎ ((moves_in old.map pool aim limit ≢ 0)
    × (fault_in old old.map.epoch (plan_change old.map pool aim limit) ≡ None)
    × (old.has_failed ≡ false) × (epoch ≡ old.map.epoch + 1)
    × (new ≡ ran (evals_of new.map (plan_change old.map pool aim limit))
    (committed old (plan_change old.map pool aim limit))))

-- why there is no answer: what refuses the plan; else that memory was short, or where a move is good what refuses its
-- commit
abbrev pub IsUnbalanced : StateFacts → ℕ → Aim → ℕ → Refusal → Type 0
IsUnbalanced old pool aim limit e =
    (plan_fault old.map pool ≡ Some e)
    ⊎ ((plan_fault old.map pool ≡ None)
    × ((e ≡ OutOfMemory)
    ⊎ ((moves_in old.map pool aim limit ≢ 0)
    × IsRefusedBy (fault_in old old.map.epoch (plan_change old.map pool aim limit)) e)))

-- what balancing answers and leaves: the epoch then and the moves; or why there is no answer, and then all is as before
-- but for runs and a store that failed
abbrev pub Balances : StateFacts → StateFacts → ℕ → Aim → ℕ → Result Balance Refusal → Type 0
Balances old new pool aim limit r =
    MatchResult r (λ ok. (plan_fault old.map pool ≡ None) × (ok.moves ≡ moves_in old.map pool aim limit)
    × IsBalanced old new pool aim limit ok.epoch)
    (IsUnbalanced old pool aim limit)
    × IfErr r (λ e. IsUnchangedBy e old new)
