use Rattle.crush_laws.proofs.RunsReached.{run_reads_reached}
use Rattle.crush_laws.proofs.run_reads_reached.Goals as goal

pub returns : goal.returns
returns c = run_reads_reached
