use Rattle.std.proofs.Common.{◌<◌, length, arith, ap, sym, ◌∙◌, slice_get}
use Rattle.sealed.proofs.Tokens.{within, read_at, token_knows}
use Rattle.sealed.proofs.pass.Pass.token.Goals as goal

pub index-requires : goal.index-requires
index-requires g c =
    omega (arith, within (λ k. k.known) c.self.inside.len c.self.inside.tokens.items c.self.invariant, c.self.inside.tokens.ok.0, c.self.invariant, ap (λ s. length s.history) c.self.view_is, c.requires)

pub returns-clause-cell : goal.returns-clause-cell
returns-clause-cell g c =
    let low : c.args.index < length c.self.inside.tokens.items = omega (arith, within (λ k. k.known) c.self.inside.len c.self.inside.tokens.items c.self.invariant, c.self.invariant, ap (λ s. length s.history) c.self.view_is, c.requires) in
    ap (λ s. slice_get s.row c.args.index) (sym c.self.view_is) ∙ read_at (λ k. k.cell) c.self.inside.tokens.items c.args.index _ low c.index.ensures

pub returns-clause-known : goal.returns-clause-known
returns-clause-known g c =
    let low : c.args.index < c.self.inside.len = omega (arith, c.self.invariant, ap (λ s. length s.history) c.self.view_is, c.requires) in
    ap (λ k. k.known) c.index.ensures
    ∙ (token_knows (λ k. k.known) c.self.inside.len c.self.inside.tokens.items c.self.invariant c.args.index c.index.result.now low ∙ ap (λ s. slice_get s.history c.args.index) c.self.view_is)
