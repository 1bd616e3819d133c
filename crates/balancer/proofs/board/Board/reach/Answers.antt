use Rattle.std.proofs.Common.{◌∙◌, sym, get_or, pos, None, rules}
use mir.Syntax.{w128}
use mir.Val.{SFits}
use Rattle.std.proofs.lemmas.Int.{to_z-of_z}
use Rattle.std.proofs.lemmas.List.{get_or_default, take_all}
use Rattle.balancer.specs.Shares.{aim_of}
use Rattle.balancer.specs.Greedy.{after_moves}
use Rattle.balancer.proofs.DeviationsSmall.{candidate_below, least_now}
use Rattle.balancer.proofs.SearchCovers.{order_more, same_best, none_covers}
use Rattle.balancer.proofs.BestCovers.{osd_in}
use Rattle.balancer.proofs.ReachOfMoves.{first_open, none_open}
use Rattle.balancer.proofs.board.Board.reach.Goals as goal

pub returns-then-not-is_shut : goal.returns-then-not-is_shut
returns-then-not-is_shut c =
    let b = c.args.self.now in
    let aim = aim_of b.frame.carried.now b.frame.apart in
    let n = after_moves b.frame.map.now.map b.frame.pool b.moves.items in
    let e = get_or c.args.order.now c.loop-to.to-index (pos 0, 0) in
    let fits : SFits w128 c.gap.result = search rules in
    rw (to_z-of_z w128 c.gap.result fits, c.gap.ensures)
    (first_open b.frame.map.now.map n b.frame.pool aim c.args.from b.frame.osds.items c.args.order.now c.requires.order (osd_in b.frame.map.now.map b.frame.pool aim b.moves.items b.frame.osds.items b.frame.osds_are)
    c.loop-to.to-index e c.loop-to-test.true (get_or_default c.args.order.now c.loop-to.to-index (pos 0, 0) e c.loop-to-test.true) c.loop-to.invariant)

pub loop-to-preserved : goal.loop-to-preserved
loop-to-preserved c =
    let b = c.args.self.now in
    let aim = aim_of b.frame.carried.now b.frame.apart in
    let n = after_moves b.frame.map.now.map b.frame.pool b.moves.items in
    let e = get_or c.args.order.now c.loop-to.to-index (pos 0, 0) in
    order_more n b.frame.pool aim None None c.args.from c.args.order.now c.loop-to.to-index e c.loop-to-test.true
    (get_or_default c.args.order.now c.loop-to.to-index (pos 0, 0) e c.loop-to-test.true) (same_best n b.frame.pool aim None tt) c.loop-to.invariant
    (none_covers b.frame.map.now.map b.frame.pool aim b.moves.items b.groups.items b.deviations.items b.board c.args.from e.1 None
    (c.requires.marks.known c.args.from e.1 (candidate_below b.frame.map.now.map b.frame.pool e.1 (c.requires.order.candidates c.loop-to.to-index (pos 0, 0) c.loop-to-test.true)) (sym c.is_shut.ensures ∙ c.if-not-is_shut.false)))

pub returns : goal.returns
returns c =
    let b = c.args.self.now in
    let aim = aim_of b.frame.carried.now b.frame.apart in
    let n = after_moves b.frame.map.now.map b.frame.pool b.moves.items in
    let fits : SFits w128 c.least_gap.result = search rules in
    rw (to_z-of_z w128 c.least_gap.result fits, c.least_gap.ensures, ← least_now b.frame.map.now.map b.frame.pool aim b.moves.items)
    (none_open b.frame.map.now.map n b.frame.pool aim c.args.from b.frame.osds.items c.args.order.now c.requires.order (osd_in b.frame.map.now.map b.frame.pool aim b.moves.items b.frame.osds.items b.frame.osds_are)
    (rw (take_all c.loop-to.to-index c.args.order.now c.loop-to-test.false) at c.loop-to.invariant))
