use Rattle.std.proofs.Common.{◌∙◌}
use Rattle.pgtable.proofs.Shows.{mapped_shown}
use Rattle.pgtable.proofs.pool_table.PoolTable.mapped.Goals as goal

pub returns : goal.returns
returns c = λ m p is below. c.set.ensures ∙ mapped_shown c.args.self.now m p c.args.number is below
