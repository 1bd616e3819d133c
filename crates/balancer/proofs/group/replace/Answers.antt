use Rattle.std.proofs.Common.{sym, ◌∙◌}
use Rattle.balancer.proofs.FirstPlaceReplaced.{replaced_nowhere, replaced_at}
use Rattle.balancer.proofs.group.replace.Goals as goal

pub returns-in_default : goal.returns-in_default
returns-in_default c =
    let nowhere = rw (c.as_slice.ensures.value, c.from.ensures) at (sym c.place_of.ensures ∙ c.in_default.is) in
    sym (replaced_nowhere c.args.pair _ nowhere)

pub returns-in-Some : goal.returns-in-Some
returns-in-Some c =
    let at = rw (c.as_slice.ensures.value, c.from.ensures) at (sym c.place_of.ensures ∙ c.in-Some.is) in
    (rw c.from-in-Some.ensures at c.set.ensures) ∙ sym (replaced_at c.args.pair c.args.places.now c.in-Some.place at)
