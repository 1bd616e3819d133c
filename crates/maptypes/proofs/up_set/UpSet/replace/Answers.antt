use Rattle.std.proofs.Common.{sym, ap, ◌∙◌, set, Some}
use Rattle.maptypes.proofs.Replaced.{replaced_nowhere, replaced_at}
use Rattle.maptypes.proofs.up_set.UpSet.replace.Goals as goal

pub returns-in_default : goal.returns-in_default
returns-in_default c =
    let nowhere = rw (c.places.ensures.places, c.from.ensures) at (sym c.place_of.ensures ∙ c.in_default.is) in
    sym (replaced_nowhere c.args.pair _ nowhere)

pub returns-in-Some : goal.returns-in-Some
returns-in-Some c =
    let at = rw (c.places.ensures.places, c.from.ensures) at (sym c.place_of.ensures ∙ c.in-Some.is) in
    c.set.ensures ∙ ap (λ xs. set xs c.in-Some.place (Some c.args.pair.to)) c.self.view_is ∙ sym (replaced_at c.args.pair c.args.self.now c.in-Some.place at)
