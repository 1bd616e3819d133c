-- Pools and growths whose numbers are within their limits.
use Rattle.std.proofs.Common.{◌≤ℤ◌, pos, nat_abs, arith}
use Rattle.std.proofs.lemmas.Int.{ints}
use Rattle.mapparts.specs.declared.parts.PoolPart.{PoolPart}
use Rattle.mapparts.specs.declared.parts.GrowPart.{GrowPart}
use Rattle.mapparts.proofs.Within.{natural_between, PoolFits, GrowthFits}
use Rattle.maptypes.specs.Growth.{IsGrowth}
use Rattle.maptypes.specs.Pools.{IsWithinLimits}
use Rattle.maptypes.specs.Values.{pool_of, growth_of}

-- a pool whose numbers fit, with no more groups for placement than groups
pub pool_within : (p : PoolPart) → PoolFits p → p.pgp_num ≤ℤ p.pg_num → IsWithinLimits (pool_of p)
pool_within p each few =
    let id = natural_between 1 65535 p.id each.id in
    let pg = natural_between 1 65536 p.pg_num each.pg_num in
    let pgp = natural_between 1 65536 p.pgp_num each.pgp_num in
    let rule = natural_between 0 255 p.rule each.rule in
    let size = natural_between 1 20 p.size each.size in
    let few' : pos (nat_abs p.pgp_num) ≤ℤ pos (nat_abs p.pg_num) = rw (← pgp.is, ← pg.is) few in
    record {
      id_some = omega (arith, id.least);
      id_most = id.most;
      groups_some = omega (arith, pgp.least);
      groups_few = omega (arith, ints, few');
      groups_most = pg.most;
      rule_most = rule.most;
      size_some = omega (arith, size.least);
      size_most = size.most;
    }

-- a growth whose numbers fit, with no more groups for placement than groups
pub growth_within : (g : GrowPart) → GrowthFits g → g.pgp_num ≤ℤ g.pg_num → IsGrowth (growth_of g)
growth_within g each few =
    let pool = natural_between 1 65535 g.pool each.pool in
    let pg = natural_between 1 65536 g.pg_num each.pg_num in
    let pgp = natural_between 1 65536 g.pgp_num each.pgp_num in
    let few' : pos (nat_abs g.pgp_num) ≤ℤ pos (nat_abs g.pg_num) = rw (← pgp.is, ← pg.is) few in
    record {
      pool_some = omega (arith, pool.least);
      pool_most = pool.most;
      groups_some = omega (arith, pgp.least);
      groups_few = omega (arith, ints, few');
      groups_most = pg.most;
    }
