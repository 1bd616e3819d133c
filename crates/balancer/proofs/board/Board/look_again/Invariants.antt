use Rattle.balancer.proofs.MarksHold.{IsSeen}
use Rattle.balancer.proofs.board.Board.look_again.Given as goal

abbrev pub invariant-loop-domain : goal.invariant-loop-domain
invariant-loop-domain l = IsSeen l.self.frame.map.now.map l.self.frame.pool l.from l.group l.domain l.initial.marks l.marks
