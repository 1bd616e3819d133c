use Rattle.std.proofs.Common.{◌<◌, ◌/◌, sym, subst, arith}
use Rattle.std.proofs.lemmas.Nat.{and_le_r}
use Rattle.osdmap.proofs.Masks.{mask_half}
use Rattle.osdmap.proofs.placing.stable_mod.Goals as goal

pub returns-else-number-mask-clause-below : goal.returns-else-number-mask-clause-below
returns-else-number-mask-clause-below c = λ some is.
    let half = subst (λ m. m / 2 < c.args.count) (sym is) (mask_half c.args.count some) in
    omega (arith, and_le_r c.args.number (c.args.mask / 2), half)
