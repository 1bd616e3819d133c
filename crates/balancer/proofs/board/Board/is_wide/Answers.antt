use Rattle.std.proofs.Common.{rules}
use mir.Syntax.{w128}
use mir.Val.{SFits}
use Rattle.std.proofs.lemmas.Int.{to_z-of_z}
use Rattle.balancer.specs.Shares.{aim_of}
use Rattle.balancer.proofs.DeviationsSmall.{least_now}
use Rattle.balancer.proofs.board.Board.is_wide.Goals as goal

pub returns : goal.returns
returns c =
    let b = c.args.self.now in
    let fits : SFits w128 c.gap.result = search rules in
    let weight_fits : SFits w128 c.least_gap.result = search rules in
    rw (to_z-of_z w128 c.least_gap.result weight_fits, to_z-of_z w128 c.gap.result fits, c.least_gap.ensures, c.gap.ensures, least_now b.frame.map.now.map b.frame.pool (aim_of b.frame.carried.now b.frame.apart) b.moves.items)
