use Rattle.std.proofs.Common.{◌≡◌, ◌≤◌, ◌*◌, nat_abs, take}
use Rattle.std.specs.List.{sum_by}
use Rattle.mapparts.proofs.pools.have_few_groups.Given as goal

-- so many groups the pools so far have
abbrev pub invariant-loop-pool : goal.invariant-loop-pool
invariant-loop-pool l = (l.groups ≡ sum_by (λ p. nat_abs p.pg_num) (take l.pool-index l.pools)) × (l.groups ≤ 65536 * l.pool-index)
