use Rattle.buckets.specs.Logarithm.{rh_lh}
use Rattle.buckets.proofs.Logarithms.{rh_lh_small}
use Rattle.buckets.proofs.pick.logarithm.rh_lh.Goals as goal

pub returns-clause-small : goal.returns-clause-small
unfolding rh_lh
returns-clause-small c = rh_lh_small c.args.at c.requires
