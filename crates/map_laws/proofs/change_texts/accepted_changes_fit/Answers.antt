use Rattle.maptypes.specs.Ordered.{IsChange}
use Rattle.map_laws.proofs.AcceptedFits.{accepted_fits}
use Rattle.map_laws.proofs.change_texts.accepted_changes_fit.Goals as goal

pub returns : goal.returns
returns c =
    let is : IsChange c.args.change.now = record { in_order = c.parts.ensures.in_order; pools_within = c.parts.ensures.pools_within; growths_within = c.parts.ensures.growths_within; crush_map = c.parts.ensures.crush_map } in
    accepted_fits c.args.map.now.map c.args.change.now c.holds_together.ensures is
