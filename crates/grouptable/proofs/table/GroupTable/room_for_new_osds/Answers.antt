use Rattle.std.proofs.Common.{◌<◌, arith, subst}
use Rattle.grouptable.specs.Tables.{IsIndex}
use Rattle.grouptable.proofs.Drafts.{same_length}
use Rattle.grouptable.proofs.table.GroupTable.room_for_new_osds.Goals as goal

pub returns-then-lists-len : goal.returns-then-lists-len
returns-then-lists-len c = λ index is osd some.
    let own = subst (λ s. IsIndex s.sets c.self.inside.index.items) c.self.view_is c.self.invariant.each in
    let long = same_length c.args.self.now.sets index c.self.inside.index.items is own in
    let below : osd < c.count_with-lists.result = c.count_with-lists.ensures.fresh osd some in
    omega (arith, long, below, c.deref.ensures.len)

pub returns : goal.returns
returns c = λ index is.
    let own = subst (λ s. IsIndex s.sets c.self.inside.index.items) c.self.view_is c.self.invariant.each in
    let long = same_length c.args.self.now.sets index c.self.inside.index.items is own in (
      omega (arith, long, c.count_with-lists.ensures.own, c.in_ok-empty_lists.ensures.all, c.deref.ensures.value),
      (
        rw c.in_ok-empty_lists.ensures.all c.count_with-lists.ensures.fresh,
        (omega (arith, c.in_ok-empty_lists.ensures.all, c.count_with-lists.ensures.few), c.in_ok-empty_lists.ensures.empty),
      ),
    )
