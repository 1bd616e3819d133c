use Rattle.std.proofs.Common.{◌∙◌}
use Rattle.grouptable.proofs.Places.{stands-stored}
use Rattle.grouptable.proofs.osd_set.holds.Goals as goal

pub returns : goal.returns
returns c = c.has_number.ensures ∙ stands-stored c.args.osd _ c.requires
