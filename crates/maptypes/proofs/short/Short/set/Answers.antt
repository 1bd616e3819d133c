use Rattle.std.proofs.Common.{◌∙◌, ap, set, arith}
use Rattle.maptypes.proofs.Shorts.{take-put}
use Rattle.maptypes.proofs.short.Short.set.Goals as goal

pub returns-then-place-self : goal.returns-then-place-self
returns-then-place-self g c =
    take-put c.self.inside.len c.self.inside.places c.args.place c.args.entry (omega arith) ∙ ap (λ xs. set xs c.args.place c.args.entry) c.self.view_is
