use Rattle.std.proofs.Common.{length, arith}
use Rattle.pgtable.proofs.Slicing.{dropped_to}
use Rattle.pgtable.proofs.candidates.from_key.Goals as goal

pub returns : goal.returns
returns c = dropped_to c.args.key c.args.groups.now c.count_below.result (length c.args.groups.now) c.count_below.ensures.below c.count_below.ensures.above c.count_below.ensures.within (omega arith)
