use Rattle.std.proofs.Common.{take}
use Rattle.balancer.specs.Boards.{may_go}
use Rattle.balancer.specs.Standing.{row_of}
use Rattle.balancer.proofs.LowestGroup.{IsLowest}
use Rattle.balancer.proofs.board.Board.first_group.Given as goal

-- the lowest of those passed
abbrev pub invariant-loop-number : goal.invariant-loop-number
invariant-loop-number l =
    IsLowest (may_go l.self.frame.map.now.map l.self.frame.pool l.from l.to) l.self.groups.items (take l.number-index (row_of l.self.standing l.from)) l.lowest
