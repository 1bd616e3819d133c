use Rattle.std.proofs.Common.{◌≡◌, slice_get, Some, IfSome, map, arith, ap, sym, ◌∙◌, subst}
use Rattle.once_cell.specs.Once.{cell_name}
use Rattle.std.proofs.lemmas.Option.{same_Some}
use Rattle.sealed.proofs.Tokens.{place_of, read_at, something_at, agrees_at}
use Rattle.sealed.proofs.row.Row.at.Goals as goal

-- the name of the row's cell in the place
cell_here : (g : _) (c : goal.After-self g) → slice_get (map cell_name c.self.inside.cells.items) c.args.index ≡ Some c.token-token.result.now.cell
cell_here g c = ap (λ ys. slice_get ys c.args.index) (c.self.view_is ∙ sym c.requires.row) ∙ c.token-token.ensures.cell

pub index-cell-requires : goal.index-cell-requires
index-cell-requires g c = omega (arith, place_of cell_name c.self.inside.cells.items c.args.index _ (cell_here g c), c.self.inside.cells.ok.0)

pub tell-requires : goal.tell-requires
tell-requires g c =
    let here : slice_get (map cell_name c.self.inside.cells.items) c.args.index ≡ Some c.token-token.result.now.cell = ap (λ ys. slice_get ys c.args.index) (c.self.view_is ∙ sym c.requires.row) ∙ c.token-token.ensures.cell in
    let read = read_at cell_name c.self.inside.cells.items c.args.index c.index-cell.result.now (place_of cell_name c.self.inside.cells.items c.args.index _ here) c.index-cell.ensures in
    c.note-note.ensures.0 ∙ same_Some _ _ (sym read ∙ here)

pub unreachable-requires : goal.unreachable-requires
unreachable-requires g c = something_at c.args.pass.now.history c.args.index c.requires.seen (sym c.token-token.ensures.known ∙ (sym c.tell.ensures.1 ∙ c.in-None.ensures.value.0))

pub returns : goal.returns
returns g c =
    agrees_at c.args.pass.now.history c.args.index c.in-Some.value.now c.requires.seen
    (subst (λ o. IfSome o (λ y. y ≡ c.in-Some.value.now)) (c.tell.ensures.1 ∙ c.token-token.ensures.known) c.in-Some.ensures.value.1)
