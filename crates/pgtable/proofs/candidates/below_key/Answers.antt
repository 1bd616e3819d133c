use Rattle.pgtable.proofs.Slicing.{taken}
use Rattle.pgtable.proofs.candidates.below_key.Goals as goal

pub returns : goal.returns
returns c = taken c.args.key c.args.groups.now c.count_below.result c.count_below.ensures.below c.count_below.ensures.above c.count_below.ensures.within
