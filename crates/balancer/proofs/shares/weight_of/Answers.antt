use Rattle.balancer.proofs.WeightsInBuckets.{weighed}
use Rattle.balancer.proofs.shares.weight_of.Goals as goal

pub returns-clause-value : goal.returns-clause-value
returns-clause-value c =
    rw (c.from.ensures, c.from-2.ensures, c.listed_weight.ensures, c.reweight.ensures.value) (weighed c.args.map.now.map c.args.weights.now c.args.osd c.holds_together.ensures c.requires)
