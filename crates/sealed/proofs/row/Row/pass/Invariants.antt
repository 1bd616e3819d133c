use Rattle.std.proofs.Common.{◌≡◌, vec_len, vec_capacity, map, take, length}
use Rattle.once_cell.specs.Once.{cell_name}
use Rattle.sealed.proofs.row.Row.pass.Given as goal

abbrev pub invariant-loop-cell : goal.invariant-loop-cell
invariant-loop-cell g l = (vec_len l.tokens ≡ l.cell-index) × (vec_capacity l.tokens ≡ length l.cell-items) × (map (λ k. k.cell) l.tokens.items ≡ map cell_name (take l.cell-index l.cell-items))
