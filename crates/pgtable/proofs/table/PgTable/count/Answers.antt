use Rattle.std.proofs.Common.{◌∙◌, ap, length}
use Rattle.pgtable.proofs.Shows.{groups_shown}
use Rattle.pgtable.proofs.table.PgTable.count.Goals as goal

pub returns : goal.returns
returns c = λ m is. c.shown_count.ensures ∙ ap length (groups_shown c.args.self.now m c.args.osd is)
