use Rattle.std.proofs.Common.{◌≡◌, ◌<◌, ◌≤◌, ◌∙◌, length, get_or, sym, inl, inr, arith}
use Rattle.std.proofs.lemmas.Bool.{cases_order}
use Rattle.keylist.proofs.Replacing.{set-key}
use Rattle.keylist.proofs.Ones.{put_between}
use Rattle.keylist.proofs.in_place.put_one.Goals as goal

pub index_mut-requires : goal.index_mut-requires
index_mut-requires g c = omega (arith, c.has_at.ensures.inside c.if-has_at.true, c.deref-2.ensures.len)

pub returns-then-has_at-clause-items : goal.returns-then-has_at-clause-items
returns-then-has_at-clause-items g c =
    let inside = rw c.deref-2.ensures.value at (c.has_at.ensures.inside c.if-has_at.true) in
    let there = rw c.deref-2.ensures.value at (c.has_at.ensures.there c.args.entry c.if-has_at.true) in
    set-key g.K.Keyed.key_of c.args.list.now.items c.count_below-at.result c.args.entry c.requires.rising inside (there ∙ c.key-2.ensures)

pub returns-clause-items : goal.returns-clause-items
returns-clause-items g c =
    let key = g.K.Keyed.key_of in
    let xs = c.args.list.now.items in
    let e = c.args.entry in
    let at = c.count_below-at.result in
    let within : at ≤ length xs = rw c.deref.ensures.value at c.count_below-at.ensures.within in
    let below = rw (c.deref.ensures.value, c.key.ensures) at c.count_below-at.ensures.below in
    let above = rw (c.deref.ensures.value, c.key.ensures) at c.count_below-at.ensures.above in
    let other = rw (c.deref-2.ensures.value, c.key-2.ensures) at (c.has_at.ensures.other e c.if-has_at.false) in
    let put = put_between key xs at e within below (λ inside.
    let least : key e ≤ key (get_or xs at e) = above at e (omega arith) inside in
    elim (cases_order (key e) (key (get_or xs at e))) [
      | inl same ↦ absurd (other inside (sym same))
      | inr (inl less) ↦ less
      | inr (inr more) ↦ absurd (omega arith)
    ]) in
    c.in-Ok.ensures.items ∙ sym put
