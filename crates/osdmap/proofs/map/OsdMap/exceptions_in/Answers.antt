use Rattle.std.proofs.Common.{◌∙◌, sym, inr}
use Rattle.maptypes.specs.Exceptions.{key_of}
use Rattle.refusal.specs.declared.refused.Refusal.TheVariants.{BadException}
use Rattle.maptypes.proofs.Judged.{ordered_itself, fails_both}
use Rattle.osdmap.proofs.map.OsdMap.exceptions_in.Goals as goal

pub returns-then-not-are_exceptions : goal.returns-then-not-are_exceptions
returns-then-not-are_exceptions g c =
    let answer = rw (c.deref.ensures.value, c.in_ok-exceptions.ensures) at c.are_exceptions.ensures in
    inr (fails_both _ _ BadException (sym answer ∙ c.if-not-are_exceptions.true))

pub returns : goal.returns
returns g c =
    let answer = rw (c.deref.ensures.value, c.in_ok-exceptions.ensures) at c.are_exceptions.ensures in
    ordered_itself (λ v. v.items) key_of _ _ BadException _ (sym answer ∙ c.if-not-are_exceptions.false) (rw c.in_ok-exceptions.ensures at c.sort_distinct.ensures)
