use Rattle.std.proofs.Common.{◌∙◌}
use Rattle.grouptable.proofs.Drafts.{moved_last, moved_out}
use Rattle.grouptable.proofs.merge.Merge.into_lists.Goals as goal

pub loop-osd-preserved : goal.loop-osd-preserved
loop-osd-preserved c =
    let u = c.in-Some.ensures.updates in
    let v = c.in_ok-insert.ensures.updates in
    λ k. moved_last c.in-Some.osd k c.in-Some.list c.in_ok-into_list.field-0 _ _ _ _ c.in-Some.ensures.entries c.in_ok-into_list.ensures u.1 u.0 v.0 ∙ c.loop-osd.invariant k

pub loop-osd-preserved-in_ok-insert : goal.loop-osd-preserved-in_ok-insert
loop-osd-preserved-in_ok-insert c =
    let u = c.in-Some.ensures.updates in
    let v = c.in_ok-insert.ensures.updates in
    λ k. moved_last c.in-Some.osd k c.in-Some.list c.in_ok-into_list.field-0 _ _ _ _ c.in-Some.ensures.entries c.in_ok-into_list.ensures u.1 u.0 v.0 ∙ c.loop-osd.invariant k

pub loop-osd-preserved-in_ok-insert-2 : goal.loop-osd-preserved-in_ok-insert-2
loop-osd-preserved-in_ok-insert-2 c =
    let u = c.in-Some.ensures.updates in
    let v = c.in_ok-insert.ensures.updates in
    λ k. moved_last c.in-Some.osd k c.in-Some.list c.in_ok-into_list.field-0 _ _ _ _ c.in-Some.ensures.entries c.in_ok-into_list.ensures u.1 u.0 v.0 ∙ c.loop-osd.invariant k

pub returns-clause-lists : goal.returns-clause-lists
returns-clause-lists c = λ k. rw (← c.self.view_is) (moved_out k c.loop-osd.fresh.entries c.loop-osd.lists.entries _ c.in_default.ensures.found.1 (c.loop-osd.invariant k))
