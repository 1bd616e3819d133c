use Rattle.std.proofs.Common.{take}
use Rattle.std.specs.Prelude.{IfSome}
use Rattle.balancer.specs.Shares.{aim_of}
use Rattle.balancer.specs.Greedy.{after_moves}
use Rattle.balancer.specs.Boards.{IsGood, CoversAll}
use Rattle.balancer.specs.Marks.{IsMarked}
use Rattle.balancer.specs.Widths.{AreBounds}
use Rattle.balancer.proofs.board.Board.find_best.Given as goal

abbrev pub invariant-loop-from : goal.invariant-loop-from
invariant-loop-from l = record {
  good : IfSome l.best (λ v. IsGood (after_moves l.self.frame.map.now.map l.self.frame.pool l.self.moves.items) l.self.frame.pool (aim_of l.self.frame.carried.now l.self.frame.apart) v);
  covers : CoversAll (after_moves l.self.frame.map.now.map l.self.frame.pool l.self.moves.items) l.self.frame.pool (aim_of l.self.frame.carried.now l.self.frame.apart) l.best (take l.from-index l.self.frame.osds.items) l.self.frame.osds.items;
  marks : IsMarked l.self.frame.map.now.map l.self.frame.pool l.self.groups.items l.marks;
  widths : AreBounds (after_moves l.self.frame.map.now.map l.self.frame.pool l.self.moves.items) l.self.frame.pool (aim_of l.self.frame.carried.now l.self.frame.apart) l.widths;
}
