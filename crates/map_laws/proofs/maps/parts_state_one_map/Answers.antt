use Rattle.map_laws.proofs.OneMap.{states_one_map}
use Rattle.map_laws.proofs.maps.parts_state_one_map.Goals as goal

pub returns : goal.returns
returns c = states_one_map
