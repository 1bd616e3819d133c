use Rattle.crush_laws.proofs.IndepPositions.{indep_looks_back}
use Rattle.crush_laws.proofs.indep_looks_back.Goals as goal

pub returns : goal.returns
returns c = indep_looks_back
