use Rattle.crush_laws.proofs.RunsFit.{runs_fit}
use Rattle.crush_laws.proofs.runs_fit.Goals as goal

pub returns : goal.returns
returns c = runs_fit
