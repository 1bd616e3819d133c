use Rattle.server_laws.proofs.Run.{runs_as_one}
use Rattle.server_laws.proofs.runs_as_one.Goals as goal

pub returns : goal.returns
returns c = runs_as_one
