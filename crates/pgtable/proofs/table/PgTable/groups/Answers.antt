use Rattle.std.proofs.Common.{◌∙◌}
use Rattle.pgtable.proofs.Shows.{groups_shown}
use Rattle.pgtable.proofs.table.PgTable.groups.Goals as goal

pub returns : goal.returns
returns c = λ m is. c.in_ok-groups.ensures ∙ groups_shown c.args.self.now m c.args.osd is
