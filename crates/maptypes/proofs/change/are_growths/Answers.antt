use Rattle.std.proofs.Common.{◌≡◌, subst, arith, take, take_all, List}
use Rattle.std.specs.List.{All}
use Rattle.std.proofs.lemmas.List.Elements.{All-more}
use Rattle.maptypes.specs.Growth.{Growth, IsGrowth}
use Rattle.maptypes.proofs.change.are_growths.Goals as goal

pub loop-growth-preserved : goal.loop-growth-preserved
loop-growth-preserved c =
    All-more IsGrowth c.args.growths.now c.loop-growth.growth-index c.growth-item.result c.loop-growth-test.true c.loop-growth.invariant (rw (← c.growth-item.is) c.pgp_num.ensures.within)

pub returns : goal.returns
returns c =
    let all : take c.loop-growth.growth-index c.args.growths.now ≡ c.args.growths.now = take_all c.loop-growth.growth-index c.args.growths.now (omega (arith, c.loop-growth-test.false)) in
    subst (λ (ps : List Growth). All IsGrowth ps) all c.loop-growth.invariant
