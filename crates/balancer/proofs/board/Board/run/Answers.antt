use Rattle.std.proofs.Common.{◌≡◌, ◌∙◌, [], Some, refl}
use Rattle.balancer.specs.Shares.{aim_of}
use Rattle.balancer.specs.Greedy.{good_moves, best_move, after_moves}
use Rattle.balancer.proofs.GreedyMoveByMove.{way_begins, way_goes_on, way_ends, way_stops}
use Rattle.balancer.proofs.BoundsOfMoves.{none_bound}
use Rattle.balancer.proofs.board.Board.run.Goals as goal

pub loop-count-init : goal.loop-count-init
loop-count-init c =
    let b = c.args.self.now in
    let aim = aim_of b.frame.carried.now b.frame.apart in
    record {
      order = c.in_ok-order.ensures;
      way = way_begins b.frame.map.now.map b.frame.pool aim c.args.limit b.moves.items c.requires;
      map = refl;
      pool = refl;
      aim = refl;
      marks = c.in_ok-marks.ensures b.groups.items;
      widths = none_bound (after_moves b.frame.map.now.map b.frame.pool b.moves.items) b.frame.pool aim _ c.in_ok-widths.widths c.in_ok-widths.ensures;
    }

pub returns-in-None-clause-moves : goal.returns-in-None-clause-moves
returns-in-None-clause-moves c =
    let i = c.loop-count.invariant in
    let none : good_moves (after_moves c.args.self.now.frame.map.now.map c.args.self.now.frame.pool c.loop-count.self.moves.items) c.args.self.now.frame.pool (aim_of c.args.self.now.frame.carried.now c.args.self.now.frame.apart) ≡ [] = rw (i.map, i.pool, i.aim) at (rw c.in-None.is at c.in_ok-step.ensures.best) in
    way_stops c.args.self.now.frame.map.now.map c.args.self.now.frame.pool (aim_of c.args.self.now.frame.carried.now c.args.self.now.frame.apart) c.args.limit c.loop-count.self.moves.items c.loop-count._count i.way none

pub loop-count-preserved : goal.loop-count-preserved
loop-count-preserved c =
    let i = c.loop-count.invariant in
    let best : best_move (after_moves c.args.self.now.frame.map.now.map c.args.self.now.frame.pool c.loop-count.self.moves.items) c.args.self.now.frame.pool (aim_of c.args.self.now.frame.carried.now c.args.self.now.frame.apart) ≡ Some c.in-Some.step = rw (i.map, i.pool, i.aim) at (rw c.in-Some.is at c.in_ok-step.ensures.best).best in
    let way = way_goes_on c.args.self.now.frame.map.now.map c.args.self.now.frame.pool (aim_of c.args.self.now.frame.carried.now c.args.self.now.frame.apart) c.args.limit c.loop-count.self.moves.items c.loop-count._count c.in-Some.step c.loop-count-test.true i.way best in
    record {
      order = rw (i.map, i.pool) at c.in_ok-step.ensures.order;
      way = rw c.in_ok-go-in-Some.ensures.moves way;
      map = c.go.ensures.same.map ∙ i.map;
      pool = c.go.ensures.same.pool ∙ i.pool;
      aim = c.go.ensures.same.aim ∙ i.aim;
      marks = c.in_ok-go-in-Some.ensures.marks;
      widths = c.in_ok-go-in-Some.ensures.widths;
    }

pub returns-clause-moves : goal.returns-clause-moves
returns-clause-moves c =
    let i = c.loop-count.invariant in
    way_ends c.args.self.now.frame.map.now.map c.args.self.now.frame.pool (aim_of c.args.self.now.frame.carried.now c.args.self.now.frame.apart) c.args.limit c.loop-count.self.moves.items c.loop-count._count c.loop-count-test.false i.way
