use Rattle.balancer.proofs.OsdsNoneLeaves.{none_leaves}
use Rattle.balancer.proofs.MarksHold.{all_marked}
use Rattle.balancer.proofs.board.Board.mark_all.Goals as goal

pub loop-domain-preserved : goal.loop-domain-preserved
loop-domain-preserved c =
    let b = c.args.self.now in
    all_marked b.frame.map.now.map b.frame.pool b.groups.items c.loop-domain.marks c.shut.new.self c.args.from _ (λ to. none_leaves b.frame.map.now.map b.frame.pool b.groups.items c.args.from to c.requires.none) c.loop-domain.invariant c.shut.ensures.rows c.shut.ensures.alike
