use Rattle.std.proofs.Common.{sym, arith, ap, length}
use Rattle.balancer.proofs.DeviationsSmall.{candidate_below}
use Rattle.balancer.proofs.LowestGroup.{none_of_row}
use Rattle.balancer.proofs.board.Board.some_leaves.Goals as goal

pub returns : goal.returns
returns c =
    let b = c.args.self.now in
    let below = candidate_below b.frame.map.now.map b.frame.pool c.args.from c.requires in
    sym (none_of_row b.frame.pool c.args.from b.groups.items b.standing b.stand (omega (arith, below, b.wide))
    (λ k n g inside. c.loop-number.invariant k n g (omega (arith, ap length c.at-number-items.ensures, c.loop-number-test.false, inside))))
