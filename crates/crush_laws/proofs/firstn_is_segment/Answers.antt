use Rattle.crush_laws.proofs.FirstnSegments.{firstn_is_segment}
use Rattle.crush_laws.proofs.firstn_is_segment.Goals as goal

pub returns : goal.returns
returns c = firstn_is_segment
