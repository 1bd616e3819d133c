use Rattle.maptypes.specs.Ordered.{IsChange}
use Rattle.map_laws.proofs.OwnParts.{states_itself_after}
use Rattle.map_laws.proofs.maps.change_leads_to_a_map.Goals as goal

pub returns : goal.returns
returns c = λ lawful epoch within.
    let is : IsChange c.args.change.now = record { in_order = c.parts.ensures.in_order; pools_within = c.parts.ensures.pools_within; growths_within = c.parts.ensures.growths_within; crush_map = c.parts.ensures.crush_map } in
    states_itself_after c.args.map.now.map (record { epoch = epoch; change = c.args.change.now }) c.holds_together.ensures is lawful within
