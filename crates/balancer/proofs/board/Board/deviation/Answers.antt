use Rattle.std.proofs.Common.{arith, rules}
use mir.Syntax.{w128}
use mir.Val.{SFits}
use Rattle.std.proofs.lemmas.Int.{to_z-of_z}
use Rattle.balancer.specs.Shares.{aim_of}
use Rattle.balancer.proofs.DeviationsSmall.{candidate_below, small_now, shown_now, long_deviations}
use Rattle.balancer.proofs.board.Board.deviation.Goals as goal

pub index-requires : goal.index-requires
index-requires c =
    let b = c.args.self.now in
    let below = candidate_below b.frame.map.now.map b.frame.pool c.args.osd c.requires in
    omega (arith, below, long_deviations b.frame.map.now.map b.frame.pool (aim_of b.frame.carried.now b.frame.apart) b.moves.items b.groups.items b.deviations.items b.board, b.deviations.ok.0)

pub returns-clause-value : goal.returns-clause-value
returns-clause-value c =
    let b = c.args.self.now in
    let fits : SFits w128 c.index.result.now = search rules in
    rw (to_z-of_z w128 c.index.result.now fits) (shown_now b.frame.map.now.map b.frame.pool (aim_of b.frame.carried.now b.frame.apart) b.moves.items b.groups.items b.deviations.items c.args.osd c.index.result.now b.board c.requires c.index.ensures)

pub returns-clause-high : goal.returns-clause-high
returns-clause-high c =
    let b = c.args.self.now in
    let fits : SFits w128 c.index.result.now = search rules in
    let is = shown_now b.frame.map.now.map b.frame.pool (aim_of b.frame.carried.now b.frame.apart) b.moves.items b.groups.items b.deviations.items c.args.osd c.index.result.now b.board c.requires c.index.ensures in
    let small = small_now b.frame.map.now.map b.frame.pool (aim_of b.frame.carried.now b.frame.apart) b.moves.items c.args.osd b.reached b.frame.pool_is (omega (arith, b.frame.weight_is, b.frame.weight_small)) b.frame.carried_small c.requires in
    rw (to_z-of_z w128 c.index.result.now fits, is) small.0

pub returns-clause-low : goal.returns-clause-low
returns-clause-low c =
    let b = c.args.self.now in
    let fits : SFits w128 c.index.result.now = search rules in
    let is = shown_now b.frame.map.now.map b.frame.pool (aim_of b.frame.carried.now b.frame.apart) b.moves.items b.groups.items b.deviations.items c.args.osd c.index.result.now b.board c.requires c.index.ensures in
    let small = small_now b.frame.map.now.map b.frame.pool (aim_of b.frame.carried.now b.frame.apart) b.moves.items c.args.osd b.reached b.frame.pool_is (omega (arith, b.frame.weight_is, b.frame.weight_small)) b.frame.carried_small c.requires in
    rw (to_z-of_z w128 c.index.result.now fits, is) small.1
