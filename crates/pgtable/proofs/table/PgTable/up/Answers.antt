use Rattle.std.proofs.Common.{◌∙◌}
use Rattle.pgtable.proofs.Shows.{up_shown}
use Rattle.pgtable.proofs.table.PgTable.up.Goals as goal

pub returns : goal.returns
returns c = λ m is. c.shown_at.ensures ∙ up_shown c.args.self.now m c.args.pg is
