use Rattle.std.proofs.Common.{◌∙◌, sym, get_or, pos}
use Rattle.std.proofs.lemmas.List.{get_or_default, take_all}
use Rattle.balancer.specs.Shares.{aim_of}
use Rattle.balancer.specs.Greedy.{after_moves}
use Rattle.balancer.proofs.DeviationsSmall.{candidate_below}
use Rattle.balancer.proofs.SearchCovers.{better_yet, order_more, order_end, order_cut, same_best, none_covers}
use Rattle.balancer.proofs.board.Board.find_better_from.Goals as goal

pub returns-then-not-is_wanted-clause-covers : goal.returns-then-not-is_wanted-clause-covers
returns-then-not-is_wanted-clause-covers c =
    let b = c.args.self.now in
    let n = after_moves b.frame.map.now.map b.frame.pool b.moves.items in
    let e = get_or c.args.order.now c.loop-to.to-index (pos 0, 0) in
    order_cut n b.frame.pool (aim_of b.frame.carried.now b.frame.apart) b.frame.map.now.map c.loop-to.best c.args.from b.frame.osds.items c.args.order.now c.loop-to.to-index e c.requires.order c.loop-to-test.true
    (get_or_default c.args.order.now c.loop-to.to-index (pos 0, 0) e c.loop-to-test.true) (sym c.is_wanted.ensures ∙ c.if-not-is_wanted.true) c.loop-to.invariant.covers

pub loop-to-preserved : goal.loop-to-preserved
loop-to-preserved c =
    let b = c.args.self.now in
    let n = after_moves b.frame.map.now.map b.frame.pool b.moves.items in
    let e = get_or c.args.order.now c.loop-to.to-index (pos 0, 0) in
    record {
      better = better_yet n b.frame.pool (aim_of b.frame.carried.now b.frame.apart) c.args.best c.loop-to.best c.find_better-best.result c.loop-to.invariant.better c.find_better-best.ensures.better;
      covers = order_more n b.frame.pool (aim_of b.frame.carried.now b.frame.apart) c.loop-to.best c.find_better-best.result c.args.from c.args.order.now c.loop-to.to-index e c.loop-to-test.true
          (get_or_default c.args.order.now c.loop-to.to-index (pos 0, 0) e c.loop-to-test.true) c.find_better-best.ensures.better c.loop-to.invariant.covers c.find_better-best.ensures.covers;
      marks = c.find_better-best.ensures.marks;
    }

pub returns-clause-covers : goal.returns-clause-covers
returns-clause-covers c =
    let b = c.args.self.now in
    let n = after_moves b.frame.map.now.map b.frame.pool b.moves.items in
    order_end n b.frame.pool (aim_of b.frame.carried.now b.frame.apart) b.frame.map.now.map c.loop-to.best c.args.from b.frame.osds.items c.args.order.now c.requires.order
    (rw (take_all c.loop-to.to-index c.args.order.now c.loop-to-test.false) at c.loop-to.invariant.covers)

pub loop-to-preserved-then-is_shut : goal.loop-to-preserved-then-is_shut
loop-to-preserved-then-is_shut c =
    let b = c.args.self.now in
    let n = after_moves b.frame.map.now.map b.frame.pool b.moves.items in
    let e = get_or c.args.order.now c.loop-to.to-index (pos 0, 0) in
    record {
      better = c.loop-to.invariant.better;
      covers = order_more n b.frame.pool (aim_of b.frame.carried.now b.frame.apart) c.loop-to.best c.loop-to.best c.args.from c.args.order.now c.loop-to.to-index e c.loop-to-test.true
          (get_or_default c.args.order.now c.loop-to.to-index (pos 0, 0) e c.loop-to-test.true) (same_best n b.frame.pool (aim_of b.frame.carried.now b.frame.apart) c.loop-to.best c.loop-to.invariant.better.good) c.loop-to.invariant.covers
          (none_covers b.frame.map.now.map b.frame.pool (aim_of b.frame.carried.now b.frame.apart) b.moves.items b.groups.items b.deviations.items b.board c.args.from e.1 c.loop-to.best
          (c.loop-to.invariant.marks.known c.args.from e.1 (candidate_below b.frame.map.now.map b.frame.pool e.1 (c.requires.order.candidates c.loop-to.to-index (pos 0, 0) c.loop-to-test.true)) (sym c.is_shut.ensures ∙ c.if-is_shut.true)));
      marks = c.loop-to.invariant.marks;
    }
