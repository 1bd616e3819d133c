use Rattle.std.proofs.Common.{◌≡◌, ◌<◌, ℕ, false, get_or}
use Rattle.balancer.specs.declared.group.Group.{Group}
use Rattle.balancer.specs.Leaving.{may_leave}
use Rattle.balancer.specs.Standing.{row_of}
use Rattle.balancer.proofs.board.Board.some_leaves.Given as goal

-- none of those passed may leave
abbrev pub invariant-loop-number : goal.invariant-loop-number
invariant-loop-number l =
    (k n : ℕ) (g : Group) → k < l.number-index → get_or (row_of l.self.standing l.from) k n ≡ n → get_or l.self.groups.items n g ≡ g
    → may_leave l.self.frame.pool l.from g ≡ false
