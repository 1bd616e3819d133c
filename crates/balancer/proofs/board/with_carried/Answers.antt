use Rattle.std.proofs.Common.{◌≡◌, ◌∙◌, rules}
use mir.Syntax.{w32, w128}
use mir.Val.{SFits}
use Rattle.std.proofs.lemmas.Int.{to_z-of_z}
use Rattle.balancer.proofs.StoredMoves.{read_with, times_fits, with_fits}
use Rattle.balancer.proofs.board.with_carried.Goals as goal

pub returns : goal.returns
returns c =
    let above : SFits w128 c.args.above = search rules in
    let parts : SFits w32 c.args.load.parts = search rules in
    let one : SFits w128 c.from.result = search rules in
    let other : SFits w128 c.from-2.result = search rules in
    let is : c.from.result ≡ c.args.load.parts = c.from.ensures ∙ to_z-of_z w32 c.args.load.parts parts in
    let product = times_fits c.args.load.parts c.args.total parts c.requires.total in
    let sum = with_fits c.args.above c.args.load.parts c.args.total c.requires.high c.requires.low parts c.requires.total in
    rw (read_with c.args.above c.from.result c.from-2.result above one other (rw (is, c.from-2.ensures) product) (rw (is, c.from-2.ensures) sum), is, c.from-2.ensures)
