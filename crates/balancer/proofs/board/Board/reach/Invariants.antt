use Rattle.std.proofs.Common.{take, All, None}
use Rattle.balancer.specs.Shares.{aim_of}
use Rattle.balancer.specs.Greedy.{after_moves}
use Rattle.balancer.specs.Boards.{CoversPair}
use Rattle.balancer.proofs.board.Board.reach.Given as goal

abbrev pub invariant-loop-to : goal.invariant-loop-to
invariant-loop-to l = All (λ f. CoversPair (after_moves l.self.frame.map.now.map l.self.frame.pool l.self.moves.items) l.self.frame.pool (aim_of l.self.frame.carried.now l.self.frame.apart) None l.from f.1) (take l.to-index l.order)
