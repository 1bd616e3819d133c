use Rattle.std.proofs.Common.{rules, sym, ◌∙◌}
use Rattle.osdmap.proofs.CheckLemmas.{after-new, after-old}
use Rattle.osdmap.proofs.map.OsdMap.pool_there.Goals as goal

pub returns-in-Some : goal.returns-in-Some
returns-in-Some c = sym (after-new c.args.self.now.map c.args.change.now c.args.id _ (search rules))

pub returns-in-None : goal.returns-in-None
returns-in-None c = c.kept_pool.ensures ∙ sym (after-old c.args.self.now.map c.args.change.now c.args.id (search rules))
