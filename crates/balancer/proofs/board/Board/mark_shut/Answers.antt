use Rattle.balancer.proofs.DeviationsSmall.{candidate_below}
use Rattle.balancer.proofs.MarksHold.{shut_marked}
use Rattle.balancer.proofs.board.Board.mark_shut.Goals as goal

pub returns-then-some_leaves : goal.returns-then-some_leaves
returns-then-some_leaves c =
    let b = c.args.self.now in
    shut_marked b.frame.map.now.map b.frame.pool b.groups.items c.args.marks.now c.shut.new.self c.args.from c.args.to (candidate_below b.frame.map.now.map b.frame.pool c.args.to c.requires.to) c.requires.apart c.requires.none c.requires.marks
    (rw c.number-domain.ensures at c.shut.ensures.rows) c.shut.ensures.alike
