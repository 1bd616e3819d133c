use Rattle.std.proofs.Common.{map, length, ap, ◌∙◌, arith}
use Rattle.grouptable.specs.Sets.{place_stored}
use Rattle.grouptable.proofs.Stored.{row_is, filled_len}
use Rattle.grouptable.proofs.osd_set.OsdSet.row.Goals as goal

pub returns-clause-value : goal.returns-clause-value
returns-clause-value c =
    let len = filled_len c.self.inside.len c.self.inside.places c.self.invariant in
    let long = ap length c.self.view_is in
    ap (map place_stored) (row_is c.self.inside.len c.self.inside.places c.args.width c.self.invariant (omega (arith, len, long, c.requires.fits)) c.requires.few)
    ∙ c.self.view_is
