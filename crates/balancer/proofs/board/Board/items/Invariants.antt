use Rattle.std.proofs.Common.{◌≡◌, map}
use Rattle.std.specs.List.{filter, range_with_len}
use Rattle.balancer.specs.Greedy.{after_moves}
use Rattle.balancer.specs.Plans.{is_moved, items_at}
use Rattle.balancer.proofs.board.Board.items.Given as goal

abbrev pub invariant-loop-number : goal.invariant-loop-number
invariant-loop-number l =
    l.items.items ≡ map (items_at (after_moves l.self.frame.map.now.map l.self.frame.pool l.self.moves.items) l.self.frame.pool) (filter (is_moved l.self.moves.items) (range_with_len 0 l.number))
