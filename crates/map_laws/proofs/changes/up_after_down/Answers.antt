use Rattle.map_laws.proofs.OrderLaw.{up_after_down}
use Rattle.map_laws.proofs.changes.up_after_down.Goals as goal

pub returns : goal.returns
returns c = up_after_down
