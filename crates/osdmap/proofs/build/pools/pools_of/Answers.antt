use Rattle.std.proofs.Common.{nat_abs, refl}
use Rattle.refusal.specs.declared.refused.Refusal.TheVariants.{BadPool}
use Rattle.mapparts.specs.declared.parts.PoolPart.{PoolPart}
use Rattle.maptypes.specs.Pools.{PoolFacts}
use Rattle.maptypes.specs.Values.{pool_of}
use Rattle.maptypes.proofs.Judged.{ordered}
use Rattle.osdmap.proofs.build.pools.pools_of.Goals as goal

pub returns : goal.returns
returns c =
    ordered (λ v. v.items) pool_of (λ (q : PoolPart). nat_abs q.id) (λ (q : PoolFacts). q.id) (λ q. refl) c.args.parts.now _ _ BadPool _ c.in_ok-pools.ensures.1 c.in_ok-pools.ensures.0 c.sort_distinct.ensures
