use Rattle.buckets.proofs.Logarithms.{crush_ln_small}
use Rattle.crush_laws.proofs.logarithms_are_low.Goals as goal

pub returns : goal.returns
returns c = crush_ln_small
