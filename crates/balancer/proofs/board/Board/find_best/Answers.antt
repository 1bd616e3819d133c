use Rattle.std.proofs.Common.{◌<◌, ◌≤◌, length, rules}
use mir.Syntax.{w128}
use mir.Val.{SFits}
use Rattle.std.proofs.lemmas.Int.{to_z-of_z}
use Rattle.balancer.specs.Shares.{aim_of}
use Rattle.balancer.specs.Greedy.{after_moves}
use Rattle.balancer.proofs.SearchCovers.{candidate_at, all_more_from, all_end, same_best}
use Rattle.balancer.proofs.BestCovers.{chosen}
use Rattle.balancer.proofs.BoundsOfMoves.{known_bound, bounds_more}
use Rattle.balancer.proofs.board.Board.find_best.Goals as goal

pub can_skip-requires-clause-bound : goal.can_skip-requires-clause-bound
can_skip-requires-clause-bound c =
    let b = c.args.self.now in
    let n = after_moves b.frame.map.now.map b.frame.pool b.moves.items in
    known_bound n b.frame.pool (aim_of b.frame.carried.now b.frame.apart) c.loop-from.widths _ c.at.result c.loop-from.invariant.widths c.at.ensures

pub find_better_from-best-requires-clause-from : goal.find_better_from-best-requires-clause-from
find_better_from-best-requires-clause-from c =
    let b = c.args.self.now in
    let inside : c.loop-from.from-index < length b.frame.osds.items = rw c.deref-from-items.ensures.value at c.loop-from-test.true in
    rw c.deref-from-items.ensures.value (candidate_at b.frame.map.now.map b.frame.pool b.frame.osds.items c.loop-from.from-index b.frame.osds_are inside)

pub bound-requires-clause-from : goal.bound-requires-clause-from
bound-requires-clause-from c =
    let b = c.args.self.now in
    let inside : c.loop-from.from-index < length b.frame.osds.items = rw c.deref-from-items.ensures.value at c.loop-from-test.true in
    rw c.deref-from-items.ensures.value (candidate_at b.frame.map.now.map b.frame.pool b.frame.osds.items c.loop-from.from-index b.frame.osds_are inside)

pub loop-from-preserved-then-can_skip : goal.loop-from-preserved-then-can_skip
loop-from-preserved-then-can_skip c =
    let b = c.args.self.now in
    let n = after_moves b.frame.map.now.map b.frame.pool b.moves.items in
    let inside : c.loop-from.from-index < length b.frame.osds.items = rw c.deref-from-items.ensures.value at c.loop-from-test.true in
    record {
      good = c.loop-from.invariant.good;
      covers = all_more_from n b.frame.pool (aim_of b.frame.carried.now b.frame.apart) c.loop-from.best c.loop-from.best b.frame.osds.items b.frame.osds.items c.loop-from.from-index inside (same_best n b.frame.pool (aim_of b.frame.carried.now b.frame.apart) c.loop-from.best c.loop-from.invariant.good) c.loop-from.invariant.covers (rw c.deref-from-items.ensures.value at c.can_skip.ensures c.if-can_skip.true);
      marks = c.loop-from.invariant.marks;
      widths = c.loop-from.invariant.widths;
    }

pub loop-from-preserved : goal.loop-from-preserved
loop-from-preserved c =
    let b = c.args.self.now in
    let n = after_moves b.frame.map.now.map b.frame.pool b.moves.items in
    let inside : c.loop-from.from-index < length b.frame.osds.items = rw c.deref-from-items.ensures.value at c.loop-from-test.true in
    let covers = c.find_better_from-best.ensures.covers in
    let fits : SFits w128 c.bound.result = search rules in
    record {
      good = c.find_better_from-best.ensures.better.good;
      covers = all_more_from n b.frame.pool (aim_of b.frame.carried.now b.frame.apart) c.loop-from.best c.find_better_from-best.result b.frame.osds.items b.frame.osds.items c.loop-from.from-index inside c.find_better_from-best.ensures.better c.loop-from.invariant.covers (rw c.deref-from-items.ensures.value at covers);
      marks = c.find_better_from-best.ensures.marks;
      widths = rw (c.set.ensures, to_z-of_z w128 c.bound.result fits) (bounds_more n b.frame.pool (aim_of b.frame.carried.now b.frame.apart) c.loop-from.widths _ _ c.bound.ensures c.loop-from.invariant.widths);
    }

pub returns-clause-best : goal.returns-clause-best
returns-clause-best c =
    let b = c.args.self.now in
    let n = after_moves b.frame.map.now.map b.frame.pool b.moves.items in
    let past : length b.frame.osds.items ≤ c.loop-from.from-index = rw c.deref-from-items.ensures.value at c.loop-from-test.false in
    chosen b.frame.map.now.map b.frame.pool (aim_of b.frame.carried.now b.frame.apart) b.moves.items b.frame.osds.items b.frame.osds_are c.loop-from.best c.loop-from.invariant.good
    (all_end n b.frame.pool (aim_of b.frame.carried.now b.frame.apart) c.loop-from.best b.frame.osds.items b.frame.osds.items c.loop-from.from-index past c.loop-from.invariant.covers)
