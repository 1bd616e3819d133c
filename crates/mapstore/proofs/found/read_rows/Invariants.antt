use Rattle.mapstore.proofs.RowLemmas.{AreRowsTo}
use Rattle.mapstore.proofs.found.read_rows.Given as goal

-- the rows so far are those of the first entries
abbrev pub invariant-loop-stored : goal.invariant-loop-stored
invariant-loop-stored l = AreRowsTo l.changes l.stored-index l.rows.items
