use Rattle.buckets.specs.Logarithm.{ll}
use Rattle.buckets.proofs.Logarithms.{ll_small}
use Rattle.buckets.proofs.pick.logarithm.ll.Goals as goal

pub returns-clause-small : goal.returns-clause-small
unfolding ll
returns-clause-small c = ll_small c.args.at c.requires
