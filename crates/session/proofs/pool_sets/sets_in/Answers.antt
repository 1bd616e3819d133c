use Rattle.std.proofs.Common.{◌∙◌, sym}
use Rattle.osdmap.specs.Maps.{pool_at}
use Rattle.session.proofs.PoolSets.{sets_more, group_within}
use Rattle.session.proofs.pool_sets.sets_in.Goals as goal

pub loop-number-preserved : goal.loop-number-preserved
loop-number-preserved g c =
    let m = c.args.state.now.map in
    let p = pool_at m.pools c.args.pool in
    let n = c.loop-number.number in
    let there = c.in-Ok.ensures.1.1 in
    (c.in_ok-push_shown-in-Ok.ensures ∙ rw c.loop-number.invariant.0 (sym (sets_more m p n _ there)), group_within m p n _ there)
