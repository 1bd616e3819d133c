use Rattle.std.proofs.Common.{◌≡◌, subst, arith, take, take_all, List}
use Rattle.std.specs.List.{All}
use Rattle.std.proofs.lemmas.List.Elements.{All-more}
use Rattle.maptypes.specs.Pools.{PoolFacts, IsWithinLimits}
use Rattle.maptypes.proofs.change.are_within_limits.Goals as goal

pub loop-pool-preserved : goal.loop-pool-preserved
loop-pool-preserved c =
    All-more IsWithinLimits c.args.pools.now c.loop-pool.pool-index c.pool-item.result c.loop-pool-test.true c.loop-pool.invariant (rw (← c.pool-item.is) c.is_within_limits.ensures)

pub returns : goal.returns
returns c =
    let all : take c.loop-pool.pool-index c.args.pools.now ≡ c.args.pools.now = take_all c.loop-pool.pool-index c.args.pools.now (omega (arith, c.loop-pool-test.false)) in
    subst (λ (ps : List PoolFacts). All IsWithinLimits ps) all c.loop-pool.invariant
