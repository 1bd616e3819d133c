-- Growing pools: the numbers of groups that a pool gets, and the pool with them (Ceph, pg_pool_t: pg_num, pgp_num).
use Rattle.std.specs.Prelude.{ℕ, ◌≤◌, ◌<◌, List, reverse}
use Rattle.std.specs.Option.{option_map_or}
use Rattle.keylist.specs.Keys.{entry_at}
use Rattle.mapparts.specs.Limits.{max_pool_id, max_groups}
use Rattle.maptypes.specs.Pools.{PoolFacts}

-- what callers see of a growth: a pool, and its numbers of groups and of groups for placement after it
pub record Growth : Type 0 where
  pub pool : ℕ
  pub pg_num : ℕ
  pub pgp_num : ℕ

-- each number is within its limits, and no more groups serve for placement than there are
pub record IsGrowth (g : Growth) : Type 0 where
  pub pool_some : 0 < g.pool
  pub pool_most : g.pool ≤ max_pool_id
  pub groups_some : 0 < g.pgp_num
  pub groups_few : g.pgp_num ≤ g.pg_num
  pub groups_most : g.pg_num ≤ max_groups

-- a pool with other numbers of groups
abbrev pub with_growth : PoolFacts → Growth → PoolFacts
with_growth p g = record p { pg_num = g.pg_num; pgp_num = g.pgp_num }

-- a pool after some growths: the last one of it counts, and a pool that has none stays
unfoldable pub with_growths : List Growth → PoolFacts → PoolFacts
with_growths gs p = option_map_or (with_growth p) (entry_at (λ g. g.pool) (reverse gs) p.id) p
