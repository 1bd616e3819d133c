use Rattle.crush_laws.proofs.IndepPositions.{indep_is_positions}
use Rattle.crush_laws.proofs.indep_is_positions.Goals as goal

pub returns : goal.returns
returns c = indep_is_positions
