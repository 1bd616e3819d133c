use Rattle.std.proofs.Common.{arith, ap, length}
use Rattle.balancer.specs.Boards.{may_go}
use Rattle.balancer.proofs.DeviationsSmall.{candidate_below}
use Rattle.balancer.proofs.LowestGroup.{lowest_next, lowest_of_all, goer_stands}
use Rattle.balancer.proofs.board.Board.first_group.Goals as goal

pub loop-number-preserved : goal.loop-number-preserved
loop-number-preserved c =
    let b = c.args.self.now in
    let row = c.at-number-items.ensures in
    lowest_next (may_go b.frame.map.now.map b.frame.pool c.args.from c.args.to) b.groups.items b.standing c.args.from c.loop-number.number-index c.loop-number.lowest
    c.lowest_with-lowest.result b.stand c.loop-number.invariant (rw row at c.loop-number-test.true) (rw row at c.lowest_with-lowest.ensures)

pub returns : goal.returns
returns c =
    let b = c.args.self.now in
    let below = candidate_below b.frame.map.now.map b.frame.pool c.args.from c.requires in
    lowest_of_all (may_go b.frame.map.now.map b.frame.pool c.args.from c.args.to) b.groups.items b.standing c.args.from c.loop-number.number-index c.loop-number.lowest
    b.stand (omega (arith, below, b.wide)) (goer_stands b.frame.map.now.map b.frame.pool c.args.from c.args.to) c.loop-number.invariant
    (omega (arith, ap length c.at-number-items.ensures, c.loop-number-test.false))
