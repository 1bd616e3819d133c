use Rattle.balancer.specs.Marks.{IsMarked}
use Rattle.balancer.proofs.board.Board.mark_all.Given as goal

abbrev pub invariant-loop-domain : goal.invariant-loop-domain
invariant-loop-domain l = IsMarked l.self.frame.map.now.map l.self.frame.pool l.self.groups.items l.marks
