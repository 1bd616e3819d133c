use Rattle.std.proofs.Common.{refl, rules}
use mir.Syntax.{w128}
use mir.Val.{SFits}
use Rattle.std.proofs.lemmas.Int.{to_z-of_z}
use Rattle.balancer.specs.Shares.{aim_of}
use Rattle.balancer.proofs.DeviationsSmall.{least_now}
use Rattle.balancer.proofs.SearchCovers.{best_ends}
use Rattle.balancer.proofs.board.Board.best_gap.Goals as goal

pub gap-requires-clause-from : goal.gap-requires-clause-from
gap-requires-clause-from c = (best_ends c.args.self.now.frame.map.now.map c.args.self.now.frame.pool (aim_of c.args.self.now.frame.carried.now c.args.self.now.frame.apart) c.args.self.now.moves.items c.args.best c.in-Some.best c.requires c.in-Some.is).0

pub gap-requires-clause-to : goal.gap-requires-clause-to
gap-requires-clause-to c = (best_ends c.args.self.now.frame.map.now.map c.args.self.now.frame.pool (aim_of c.args.self.now.frame.carried.now c.args.self.now.frame.apart) c.args.self.now.moves.items c.args.best c.in-Some.best c.requires c.in-Some.is).1

pub returns-in-None : goal.returns-in-None
returns-in-None c =
    let b = c.args.self.now in
    let fits : SFits w128 c.least_gap.result = search rules in
    rw (to_z-of_z w128 c.least_gap.result fits, c.in-None.is, c.least_gap.ensures, least_now b.frame.map.now.map b.frame.pool (aim_of b.frame.carried.now b.frame.apart) b.moves.items) refl
