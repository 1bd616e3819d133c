use Rattle.std.proofs.Common.{◌≡◌, map, length, arith, ap, sym, ◌∙◌}
use Rattle.std.proofs.lemmas.List.{length-map}
use Rattle.sealed.proofs.Tokens.{within, read_copied}
use Rattle.sealed.proofs.pass.Pass.join.Goals as goal

pub copy-requires-clause-mine : goal.copy-requires-clause-mine
copy-requires-clause-mine g c =
    let rows : map (λ k. k.cell) c.self.inside.tokens.items ≡ map (λ k. k.cell) c.other.inside.tokens.items = ap (λ s. s.row) c.self.view_is ∙ (c.requires ∙ ap (λ s. s.row) (sym c.other.view_is)) in
    omega (arith, within (λ k. k.known) c.other.inside.len c.other.inside.tokens.items c.other.invariant, c.self.inside.tokens.ok.0, ap length rows, length-map c.self.inside.tokens.items (λ k. k.cell), length-map c.other.inside.tokens.items (λ k. k.cell))

pub copy-requires-clause-theirs : goal.copy-requires-clause-theirs
copy-requires-clause-theirs g c =
    omega (arith, within (λ k. k.known) c.other.inside.len c.other.inside.tokens.items c.other.invariant, c.other.inside.tokens.ok.0)

pub returns-then-self-other-clause-row : goal.returns-then-self-other-clause-row
returns-then-self-other-clause-row g c =
    let rows : map (λ k. k.cell) c.self.inside.tokens.items ≡ map (λ k. k.cell) c.other.inside.tokens.items = ap (λ s. s.row) c.self.view_is ∙ (c.requires ∙ ap (λ s. s.row) (sym c.other.view_is)) in
    ap (map (λ k. k.cell)) c.copy.ensures ∙ (read_copied (λ k. k.cell) c.other.inside.len c.self.inside.tokens.items c.other.inside.tokens.items rows ∙ ap (λ s. s.row) c.self.view_is)
