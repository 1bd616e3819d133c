use Rattle.crush_laws.proofs.DescentEnds.{descent_ends}
use Rattle.crush_laws.proofs.descent_ends.Goals as goal

pub returns : goal.returns
returns c = descent_ends
