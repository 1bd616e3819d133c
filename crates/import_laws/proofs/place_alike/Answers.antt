use Rattle.import_laws.proofs.OwnPlaces.{place_alike}
use Rattle.import_laws.proofs.place_alike.Goals as goal

pub returns : goal.returns
returns c = place_alike
