use Rattle.std.proofs.Common.{rules, sym, ◌∙◌}
use Rattle.osdmap.proofs.CheckLemmas.{kept-gone, kept-stays}
use Rattle.osdmap.proofs.map.OsdMap.kept_pool.Goals as goal

pub returns-then-has : goal.returns-then-has
returns-then-has c = sym (kept-gone c.args.self.now.map c.args.change.now c.args.id (search rules))

pub returns-else-has : goal.returns-else-has
returns-else-has c = c.pool.ensures ∙ sym (kept-stays c.args.self.now.map c.args.change.now c.args.id (search rules))
