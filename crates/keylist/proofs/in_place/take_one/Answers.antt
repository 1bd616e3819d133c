use Rattle.std.proofs.Common.{◌≡◌, ◌∙◌, sym, arith}
use Rattle.keylist.proofs.Ones.{one_goes, others_stay, none_there}
use Rattle.keylist.proofs.in_place.take_one.Goals as goal

pub remove-requires : goal.remove-requires
remove-requires g c = omega (arith, c.has_at.ensures.inside c.if-has_at.true, c.deref-2.ensures.len)

pub returns-then-has_at-clause-items : goal.returns-then-has_at-clause-items
returns-then-has_at-clause-items g c =
    let inside = rw c.deref-2.ensures.value at (c.has_at.ensures.inside c.if-has_at.true) in
    let there = rw c.deref-2.ensures.value at c.has_at.ensures.there in
    c.remove.ensures.items ∙ sym (one_goes g.K.Keyed.key_of c.args.key c.args.list.now.items c.count_below-at.result c.requires inside (λ d. there d c.if-has_at.true))

pub returns-else-has_at-clause-items : goal.returns-else-has_at-clause-items
returns-else-has_at-clause-items g c =
    let key = g.K.Keyed.key_of in
    let xs = c.args.list.now.items in
    let below = rw c.deref.ensures.value at c.count_below-at.ensures.below in
    let above = rw c.deref.ensures.value at c.count_below-at.ensures.above in
    let other = rw c.deref-2.ensures.value at c.has_at.ensures.other in
    sym (others_stay key c.args.key xs (none_there key c.args.key xs c.count_below-at.result c.requires below above (λ d. other d c.if-has_at.false)))
