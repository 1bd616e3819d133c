use Rattle.crush_laws.proofs.IndepPositions.{indep_keeps_positions}
use Rattle.crush_laws.proofs.indep_keeps_positions.Goals as goal

pub returns : goal.returns
returns c = indep_keeps_positions
