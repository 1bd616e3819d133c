use Rattle.import_laws.proofs.OwnPicks.{pick_alike}
use Rattle.import_laws.proofs.pick_alike.Goals as goal

pub returns : goal.returns
returns c = pick_alike
