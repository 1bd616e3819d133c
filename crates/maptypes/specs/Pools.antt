-- A pool: how many groups it has, and the rule and size by which they are placed (Ceph, osd_types.h, pg_pool_t).
use Rattle.std.specs.Prelude.{ℕ, ◌≤◌, ◌<◌, List}
use Rattle.std.specs.List.{sum_by}
use Rattle.crush.specs.declared.step.RuleKind.{RuleKind}
use Rattle.crush.specs.Limits.{max_size}
use Rattle.mapparts.specs.Limits.{max_pool_id, max_groups, max_rule_id}

-- what callers see of a pool
pub record PoolFacts : Type 0 where
  pub id : ℕ
  pub kind : RuleKind
  pub pg_num : ℕ
  pub pgp_num : ℕ
  pub rule : ℕ
  pub size : ℕ

-- how many groups some pools have together
abbrev pub total_groups : List PoolFacts → ℕ
total_groups pools = sum_by (λ p. p.pg_num) pools

-- each number is within its limits, and no more groups serve for placement than there are
pub record IsWithinLimits (p : PoolFacts) : Type 0 where
  pub id_some : 0 < p.id
  pub id_most : p.id ≤ max_pool_id
  pub groups_some : 0 < p.pgp_num
  pub groups_few : p.pgp_num ≤ p.pg_num
  pub groups_most : p.pg_num ≤ max_groups
  pub rule_most : p.rule ≤ max_rule_id
  pub size_some : 0 < p.size
  pub size_most : p.size ≤ max_size
