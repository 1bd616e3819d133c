use Rattle.std.proofs.Common.{rules}
use mir.Syntax.{w128}
use mir.Val.{SFits}
use Rattle.std.proofs.lemmas.Int.{to_z-of_z}
use Rattle.balancer.specs.Shares.{aim_of}
use Rattle.balancer.specs.Greedy.{after_moves}
use Rattle.balancer.proofs.DeviationsSmall.{least_now}
use Rattle.balancer.proofs.SearchCovers.{best_ends}
use Rattle.balancer.proofs.BoundsOfMoves.{z_within, passed_none, passed_some}
use Rattle.balancer.proofs.board.Board.can_skip.Goals as goal

pub gap-requires-clause-from : goal.gap-requires-clause-from
gap-requires-clause-from c = (best_ends c.args.self.now.frame.map.now.map c.args.self.now.frame.pool (aim_of c.args.self.now.frame.carried.now c.args.self.now.frame.apart) c.args.self.now.moves.items c.args.best c.in-Some-best.best c.requires.best c.in-Some-best.is).0

pub gap-requires-clause-to : goal.gap-requires-clause-to
gap-requires-clause-to c = (best_ends c.args.self.now.frame.map.now.map c.args.self.now.frame.pool (aim_of c.args.self.now.frame.carried.now c.args.self.now.frame.apart) c.args.self.now.moves.items c.args.best c.in-Some-best.best c.requires.best c.in-Some-best.is).1

pub returns-then-best-from : goal.returns-then-best-from
returns-then-best-from c = λ within.
    let b = c.args.self.now in
    let n = after_moves b.frame.map.now.map b.frame.pool b.moves.items in
    let fits : SFits w128 c.gap.result = search rules in
    let bound_fits : SFits w128 c.in-Some.bound = search rules in
    let low = z_within c.in-Some.bound c.gap.result (rw (to_z-of_z w128 c.gap.result fits, to_z-of_z w128 c.in-Some.bound bound_fits) at within) in
    rw c.in-Some-best.is
    (passed_some n b.frame.pool (aim_of b.frame.carried.now b.frame.apart) b.frame.osds.items c.args.from c.in-Some.bound c.in-Some-best.best (rw c.in-Some.is at c.requires.bound) c.if-best-from.true (rw c.gap.ensures at low))

pub returns-in-None : goal.returns-in-None
returns-in-None c = λ within.
    let b = c.args.self.now in
    let n = after_moves b.frame.map.now.map b.frame.pool b.moves.items in
    let fits : SFits w128 c.least_gap.result = search rules in
    let bound_fits : SFits w128 c.in-Some.bound = search rules in
    let low = z_within c.in-Some.bound c.least_gap.result (rw (to_z-of_z w128 c.least_gap.result fits, to_z-of_z w128 c.in-Some.bound bound_fits) at within) in
    rw c.in-None.is
    (passed_none n b.frame.pool (aim_of b.frame.carried.now b.frame.apart) b.frame.osds.items c.args.from c.in-Some.bound (rw c.in-Some.is at c.requires.bound)
    (rw (c.least_gap.ensures, ← least_now b.frame.map.now.map b.frame.pool (aim_of b.frame.carried.now b.frame.apart) b.moves.items) at low))
