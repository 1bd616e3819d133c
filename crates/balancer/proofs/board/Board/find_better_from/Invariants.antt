use Rattle.std.proofs.Common.{take, All}
use Rattle.balancer.specs.Shares.{aim_of}
use Rattle.balancer.specs.Greedy.{after_moves}
use Rattle.balancer.specs.Boards.{IsBetter, CoversPair}
use Rattle.balancer.specs.Marks.{IsMarked}
use Rattle.balancer.proofs.board.Board.find_better_from.Given as goal

abbrev pub invariant-loop-to : goal.invariant-loop-to
invariant-loop-to l = record {
  better : IsBetter (after_moves l.self.frame.map.now.map l.self.frame.pool l.self.moves.items) l.self.frame.pool (aim_of l.self.frame.carried.now l.self.frame.apart) l.initial.best l.best;
  covers : All (λ f. CoversPair (after_moves l.self.frame.map.now.map l.self.frame.pool l.self.moves.items) l.self.frame.pool (aim_of l.self.frame.carried.now l.self.frame.apart) l.best l.from f.1) (take l.to-index l.order);
  marks : IsMarked l.self.frame.map.now.map l.self.frame.pool l.self.groups.items l.marks;
}
