use Rattle.std.proofs.Common.{◌≡◌, ◌+◌, ◌++◌, [], ◌∷◌, length, take, map, slice_set, IfSome, Some, slice_get, ◌∙◌, ap, subst}
use Rattle.std.specs.List.{filter_map}
use Rattle.sealed.proofs.Tokens.{set_same, place_of, one_more_seen, one_more_full}
use Rattle.sealed.proofs.pass.Pass.grow.Goals as goal

-- the cell of the next token is that of the note
place : (g : _) (c : goal.After-self-2-1 g) → slice_get (map (λ k. k.cell) c.self.inside.tokens.items) c.self.inside.len ≡ Some c.of.result.cell
place g c =
    let row = ap (λ s. s.row) c.self.view_is in
    let len = ap (λ s. length s.history) c.self.view_is in
    rw (row, ← c.self.invariant, len, c.of.ensures.1) c.requires.cell

pub invariant_of-self : goal.invariant_of-self
invariant_of-self g c =
    let ks = c.self.inside.tokens.items in
    one_more_full (λ k. k.known) c.self.inside.len ks c.of.result c.args.note.now.known (place_of (λ k. k.cell) ks c.self.inside.len c.of.result.cell (place g c)) c.of.ensures.2 c.requires.known c.self.invariant

pub returns-clause-row : goal.returns-clause-row
returns-clause-row g c = set_same (λ k. k.cell) c.self.inside.tokens.items c.self.inside.len c.of.result (place g c) ∙ ap (λ s. s.row) c.self.view_is

pub returns-clause-history : goal.returns-clause-history
returns-clause-history g c =
    let ks = c.self.inside.tokens.items in
    let grown = one_more_seen (λ k. k.known) c.self.inside.len ks c.of.result c.args.note.now.known (place_of (λ k. k.cell) ks c.self.inside.len c.of.result.cell (place g c)) c.of.ensures.2 in
    subst (λ h. IfSome c.args.note.now.known (λ x. filter_map (λ k. k.known) (take (c.self.inside.len + 1) (slice_set ks c.self.inside.len c.of.result)) ≡ h ++ x ∷ [])) (ap (λ s. s.history) c.self.view_is) grown
