use Rattle.std.proofs.Common.{◌≡◌, ◌<◌, ℕ, length, get_or}
use Rattle.balancer.specs.Shares.{deviation, aim_of}
use Rattle.balancer.specs.Reached.{AreAll, reached}
use Rattle.balancer.proofs.board.Board.measure.Given as goal

-- they are the same OSDs, and those so far have their deviations
abbrev pub invariant-loop-k : goal.invariant-loop-k
invariant-loop-k l =
    (length l.order.items ≡ length l.initial.order.items) × AreAll l.self l.order.items
    × ((j : ℕ) (d : _) → j < l.k → (get_or l.order.items j d).0 ≡ deviation (reached l.self) l.self.frame.pool (aim_of l.self.frame.carried.now l.self.frame.apart) (get_or l.order.items j d).1)
