use Rattle.std.proofs.Common.{take}
use Rattle.balancer.specs.Plans.{AreMoved}
use Rattle.balancer.proofs.board.moved_of.Given as goal

abbrev pub invariant-loop-step : goal.invariant-loop-step
invariant-loop-step l = AreMoved (take l.step-index l.moves) l.count l.moved.items
