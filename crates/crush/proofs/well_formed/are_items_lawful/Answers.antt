use Rattle.std.proofs.Common.{sym, ◌∙◌}
use Rattle.crush.proofs.ForestLimits.{has_items_below-more}
use Rattle.crush.proofs.well_formed.are_items_lawful.Goals as goal

-- known below max_osd, so below the most devices
pub are_met_once-requires-clause-known : goal.are_met_once-requires-clause-known
are_met_once-requires-clause-known c = has_items_below-more c.args.buckets.now c.args.max_osd 4096 c.requires.devices (sym c.have_items_below.ensures ∙ c.if-have_items_below.true)
