use Rattle.std.proofs.Common.{sym, refl, ◌∙◌}
use mathlib.Core.Bool.{false≢true}
use Rattle.pgtable.proofs.table.PgTable.prepare.Goals as goal

pub new-requires-clause-is_source : goal.new-requires-clause-is_source
new-requires-clause-is_source g c = record {
  after = λ made. absurd (false≢true made);
  before = λ not_made. refl;
  leaves = λ not_made. sym c.leaves_raw_sets.ensures ∙ c.if-leaves_raw_sets.true;
}
