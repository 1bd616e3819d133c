use Rattle.map_laws.proofs.Held.{journals_keep_maps}
use Rattle.map_laws.proofs.maps.journals_keep_maps.Goals as goal

pub returns : goal.returns
returns c = journals_keep_maps
