use Rattle.std.proofs.Common.{arith, ap, length}
use Rattle.std.proofs.lemmas.List.{length-map}
use Rattle.sealed.proofs.Tokens.{within}
use Rattle.sealed.proofs.pass.Pass.len.Goals as goal

pub returns-clause-within : goal.returns-clause-within
returns-clause-within g c =
    omega (arith, within (λ k. k.known) c.self.inside.len c.self.inside.tokens.items c.self.invariant, c.self.invariant, ap (λ s. length s.history) c.self.view_is, ap (λ s. length s.row) c.self.view_is, length-map c.self.inside.tokens.items (λ k. k.cell))
