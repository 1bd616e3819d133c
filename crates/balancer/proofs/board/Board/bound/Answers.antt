use Rattle.std.proofs.Common.{rules}
use mir.Syntax.{w128}
use mir.Val.{SFits}
use Rattle.std.proofs.lemmas.Int.{to_z-of_z}
use Rattle.balancer.specs.Shares.{aim_of}
use Rattle.balancer.specs.Greedy.{after_moves}
use Rattle.balancer.proofs.BestCovers.{osd_in}
use Rattle.balancer.proofs.BoundsOfMoves.{covered_bound}
use Rattle.balancer.proofs.board.Board.bound.Goals as goal

pub returns-else-far-found : goal.returns-else-far-found
returns-else-far-found c =
    let b = c.args.self.now in
    let aim = aim_of b.frame.carried.now b.frame.apart in
    let n = after_moves b.frame.map.now.map b.frame.pool b.moves.items in
    let fits : SFits w128 c.best_gap-found.result = search rules in
    rw (to_z-of_z w128 c.best_gap-found.result fits, c.best_gap-found.ensures)
    (covered_bound n b.frame.pool aim b.frame.osds.items c.args.from c.args.best (osd_in b.frame.map.now.map b.frame.pool aim b.moves.items b.frame.osds.items b.frame.osds_are) c.requires.covers)
