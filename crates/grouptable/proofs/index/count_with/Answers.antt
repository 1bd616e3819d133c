use Rattle.std.proofs.Common.{arith, ◌∙◌}
use Rattle.grouptable.proofs.Drafts.{key_below, keys_below}
use Rattle.grouptable.proofs.index.count_with.Goals as goal

pub returns-clause-fresh : goal.returns-clause-fresh
returns-clause-fresh c = keys_below c.args.fresh.now.entries c.as_slice-osds.result.now c.loop-osd.count (c.as_slice-osds.ensures ∙ c.keys.ensures.rest) (λ k h. c.loop-osd.invariant.1.1 k (omega arith))

pub count_up_to-count-requires-clause-small : goal.count_up_to-count-requires-clause-small
count_up_to-count-requires-clause-small c = key_below c.args.fresh.now.entries c.as_slice-osds.result.now 4096 c.loop-osd.osd-index (c.as_slice-osds.ensures ∙ c.keys.ensures.rest) c.requires.within (omega arith)
