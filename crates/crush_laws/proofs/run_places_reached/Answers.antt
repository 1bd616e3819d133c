use Rattle.crush_laws.proofs.RunsReached.{run_places_reached}
use Rattle.crush_laws.proofs.run_places_reached.Goals as goal

pub returns : goal.returns
returns c = run_places_reached
