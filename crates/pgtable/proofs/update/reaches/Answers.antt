use Rattle.std.proofs.Common.{sym, rules}
use Rattle.pgtable.proofs.Touched.{no_rule}
use Rattle.pgtable.proofs.update.reaches.Goals as goal

pub returns-in-None : goal.returns-in-None
returns-in-None c = sym (no_rule c.args.map.now.map c.args.change.now c.args.pool.now (search rules))
