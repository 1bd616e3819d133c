use Rattle.std.proofs.Common.{◌∙◌, sym, arith, rules}
use mir.Syntax.{w128}
use mir.Val.{SFits}
use Rattle.std.proofs.lemmas.List.FromFn.{map-range_with_len_more}
use Rattle.std.proofs.lemmas.Int.{to_z-of_z}
use Rattle.balancer.specs.Shares.{deviation, aim_of}
use Rattle.balancer.proofs.board.deviations.Goals as goal

pub loop-osd-preserved : goal.loop-osd-preserved
loop-osd-preserved c =
    let more = map-range_with_len_more (deviation c.args.frame.now.map.now.map c.args.frame.now.pool (aim_of c.args.frame.now.carried.now c.args.frame.now.apart)) 0 c.loop-osd.osd c.loop-osd.osd (omega arith) in
    let fits : SFits w128 c.deviation_of.result = search rules in
    c.in_ok-push.ensures.items ∙ rw (to_z-of_z w128 c.deviation_of.result fits, c.loop-osd.invariant, c.deviation_of.ensures) (sym more)
