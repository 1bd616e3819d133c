use Rattle.std.proofs.Common.{arith, ◌∙◌, ◌<◌, length}
use Rattle.std.proofs.lemmas.List.{length-set}
use Rattle.grouptable.proofs.Drafts.{last_below, left_below, put_last}
use Rattle.grouptable.proofs.index.put_lists.Goals as goal

pub index_mut-requires : goal.index_mut-requires
index_mut-requires c =
    let below : c.in-Some.osd < length c.loop-osd.index.items = last_below _ c.in-Some.osd c.in-Some.list _ _ c.loop-osd.invariant.1.0 c.in-Some.ensures.entries c.in-Some.ensures.updates.1 in
    omega (arith, below, c.loop-osd.index.ok.0)

pub loop-osd-preserved : goal.loop-osd-preserved
loop-osd-preserved c =
    let u = c.in-Some.ensures.updates in
    let below : c.in-Some.osd < length c.loop-osd.index.items = last_below _ c.in-Some.osd c.in-Some.list _ _ c.loop-osd.invariant.1.0 c.in-Some.ensures.entries u.1 in
    let long = length-set c.loop-osd.index.items c.in-Some.osd c.in-Some.list in (
      long ∙ c.loop-osd.invariant.0,
      (
        left_below (length c.loop-osd.index.items) _ c.in-Some.osd _ _ c.loop-osd.invariant.1.0 (omega (arith, long)) u.0,
        λ k. put_last c.in-Some.osd k c.in-Some.list c.loop-osd.index.items _ _ below c.in-Some.ensures.entries u.1 u.0 ∙ c.loop-osd.invariant.1.1 k,
      ),
    )

pub loop-osd-preserved-in-Some : goal.loop-osd-preserved-in-Some
loop-osd-preserved-in-Some c =
    let u = c.in-Some.ensures.updates in
    let below : c.in-Some.osd < length c.loop-osd.index.items = last_below _ c.in-Some.osd c.in-Some.list _ _ c.loop-osd.invariant.1.0 c.in-Some.ensures.entries u.1 in
    let long = length-set c.loop-osd.index.items c.in-Some.osd c.in-Some.list in (
      long ∙ c.loop-osd.invariant.0,
      (
        left_below (length c.loop-osd.index.items) _ c.in-Some.osd _ _ c.loop-osd.invariant.1.0 (omega (arith, long)) u.0,
        λ k. put_last c.in-Some.osd k c.in-Some.list c.loop-osd.index.items _ _ below c.in-Some.ensures.entries u.1 u.0 ∙ c.loop-osd.invariant.1.1 k,
      ),
    )
