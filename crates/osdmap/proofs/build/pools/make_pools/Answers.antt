use Rattle.std.proofs.Common.{◌≡◌, map, false, refl}
use Rattle.std.specs.List.{list_all}
use Rattle.keylist.proofs.Each.{not_all}
use Rattle.refusal.specs.declared.refused.Refusal.TheVariants.{BadPool}
use Rattle.refusal.specs.Outcomes.{refused_unless}
use Rattle.maptypes.specs.Values.{pool_of}
use Rattle.maptypes.proofs.Judged.{refused, stops}
use Rattle.osdmap.specs.Stated.{pool_ok}
use Rattle.osdmap.proofs.build.pools.make_pools.Goals as goal

pub returns-in_err-pool : goal.returns-in_err-pool
returns-in_err-pool c =
    let e = c.in_err-pool.field-0.0 in
    stops c.from_residual-in_err-pool.result (λ pools. pools.items ≡ map pool_of c.args.parts.now) (refused_unless (list_all (pool_ok c.args.rules.now) c.args.parts.now) BadPool) _ e
    (λ wrong.
    let fails = refused _ BadPool e wrong in
    let all : list_all (pool_ok c.args.rules.now) c.args.parts.now ≡ false = not_all (pool_ok c.args.rules.now) c.args.parts.now c.loop-part.part-index _ _ c.loop-part-test.true refl fails in
    rw all (rw fails at wrong))
    c.in_err-pool.ensures c.from_residual-in_err-pool.ensures.1
