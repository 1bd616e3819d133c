use Rattle.map_laws.proofs.OwnParts.{states_itself}
use Rattle.map_laws.proofs.maps.states_itself.Goals as goal

pub returns : goal.returns
returns c = states_itself c.args.map.now.map c.holds_together.ensures
