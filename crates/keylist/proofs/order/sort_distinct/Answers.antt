use Rattle.std.proofs.Common.{◌∙◌, sym, refl, inr}
use Rattle.keylist.proofs.Distinct.{distinct-moved}
use Rattle.keylist.proofs.KeyedOrder.{distinct_rises}
use Rattle.keylist.proofs.order.sort_distinct.Goals as goal

pub returns-then-not-are_distinct : goal.returns-then-not-are_distinct
returns-then-not-are_distinct g c =
    let key = g.K.Keyed.key_of in
    let answer = rw c.deref.ensures.value at c.are_distinct.ensures in
    let twice = sym (distinct-moved key _ _ c.in_ok-entries.ensures.same) ∙ sym answer ∙ c.if-not-are_distinct.true in
    inr (rw twice refl)

pub returns : goal.returns
returns g c =
    let key = g.K.Keyed.key_of in
    let answer = rw c.deref.ensures.value at c.are_distinct.ensures in
    let once = sym answer ∙ c.if-not-are_distinct.false in
    let given = sym (distinct-moved key _ _ c.in_ok-entries.ensures.same) ∙ once in
    (rw given refl, record { same = c.in_ok-entries.ensures.same; rising = distinct_rises key _ c.in_ok-entries.ensures.ascending once })
