use Rattle.grouptable.proofs.Listing.{groups_more}
use Rattle.grouptable.proofs.build.add_groups.Goals as goal

pub loop-group-preserved : goal.loop-group-preserved
loop-group-preserved c =
    (c.in_ok-add_group.ensures.all, λ osd h. groups_more osd c.loop-group.group c.args.sets.now.sets _ _ _ c.set.ensures.value (c.loop-group.invariant.1 osd h) (c.in_ok-add_group.ensures.lists osd h))
