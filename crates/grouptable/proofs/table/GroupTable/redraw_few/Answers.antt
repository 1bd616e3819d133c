use Rattle.std.proofs.Common.{map, arith}
use Rattle.grouptable.specs.Sets.{place_stored}
use Rattle.grouptable.proofs.Changes.{drafted, fits_all}
use Rattle.grouptable.proofs.table.GroupTable.redraw_few.Goals as goal

pub loop-group-init : goal.loop-group-init
loop-group-init c = λ osd h. rw c.new-draft.ensures (c.self.invariant.each.each osd h)

pub loop-group-preserved : goal.loop-group-preserved
loop-group-preserved c =
    let within = rw (← c.self.view_is) at c.requires.within in
    λ osd h. drafted c.self.inside.sets.sets c.args.changes.now c.loop-group.group-index c.loop-group-item.result osd (map place_stored c.set.result.now) _ _ _ (omega arith) c.loop-group-item.is within c.requires.ascending (c.loop-group.invariant osd h) c.set.ensures.value (rw (c.as_slice.ensures.value, c.as_stored.ensures.value) at (c.in_ok-leave.ensures.lists osd)) (rw (c.as_slice.ensures.value, c.as_stored.ensures.value) at (c.in_ok-join.ensures.lists osd))

pub returns : goal.returns
returns c = record {
  within = rw c.into_lists.ensures.lists c.into_lists.ensures.within;
  each = λ osd h.
      rw (c.into_lists.ensures.lists, ← c.self.view_is) (fits_all c.self.inside.sets.sets c.self.inside.index.items c.loop-group.draft c.args.changes.now c.loop-group.group-index osd (c.self.invariant.each.each osd h) (c.loop-group.invariant osd h) c.loop-group-test.false);
}
