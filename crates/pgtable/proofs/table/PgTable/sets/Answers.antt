use Rattle.std.proofs.Common.{◌∙◌}
use Rattle.pgtable.proofs.Shows.{pool_shown}
use Rattle.pgtable.proofs.table.PgTable.sets.Goals as goal

pub returns : goal.returns
returns c = λ m is. c.pool.ensures ∙ pool_shown c.args.self.now m c.args.pool is
