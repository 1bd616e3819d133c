use Rattle.std.proofs.Common.{◌≡◌, length, take, arith}
use Rattle.std.proofs.lemmas.List.{length-take-le}
use Rattle.maptypes.proofs.Shorts.{IsFilled-set}
use Rattle.maptypes.proofs.short.Short.push.Goals as goal

pub invariant_of-self : goal.invariant_of-self
invariant_of-self g c =
    let full = c.self.invariant in
    let len : length (take c.self.inside.len c.self.inside.places) ≡ c.self.inside.len = length-take-le _ _ (omega (arith, full.few, full.twenty)) in
    IsFilled-set _ _ _ _ full (rw len at (rw (← c.self.view_is) at c.requires))
