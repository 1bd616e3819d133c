use Rattle.std.proofs.Common.{◌≡◌, map}
use Rattle.std.specs.List.Sorted.{IsPermutation}
use Rattle.balancer.specs.Shares.{candidate_osds, aim_of}
use Rattle.balancer.specs.Greedy.{after_moves}
use Rattle.balancer.specs.Marks.{IsMarked}
use Rattle.balancer.specs.Widths.{AreBounds}
use Rattle.balancer.proofs.GreedyMoveByMove.{IsUnderWay}
use Rattle.balancer.proofs.board.Board.run.Given as goal

abbrev pub invariant-loop-count : goal.invariant-loop-count
invariant-loop-count l = record {
  order : IsPermutation (map (λ e. e.1) l.order.items) (candidate_osds l.initial.self.frame.map.now.map l.initial.self.frame.pool);
  way : IsUnderWay l.initial.self.frame.map.now.map l.initial.self.frame.pool (aim_of l.initial.self.frame.carried.now l.initial.self.frame.apart) l.limit l.self.moves.items l._count;
  map : l.self.frame.map.now.map ≡ l.initial.self.frame.map.now.map;
  pool : l.self.frame.pool ≡ l.initial.self.frame.pool;
  aim : (aim_of l.self.frame.carried.now l.self.frame.apart) ≡ (aim_of l.initial.self.frame.carried.now l.initial.self.frame.apart);
  marks : IsMarked l.self.frame.map.now.map l.self.frame.pool l.self.groups.items l.marks;
  widths : AreBounds (after_moves l.self.frame.map.now.map l.self.frame.pool l.self.moves.items) l.self.frame.pool (aim_of l.self.frame.carried.now l.self.frame.apart) l.widths;
}
