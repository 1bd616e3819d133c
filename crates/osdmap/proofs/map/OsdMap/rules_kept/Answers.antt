use Rattle.std.proofs.Common.{◌∙◌, sym, ap}
use Rattle.osdmap.proofs.CheckLemmas.{kept-ruled}
use Rattle.osdmap.proofs.map.OsdMap.rules_kept.Goals as goal

pub returns-in-None : goal.returns-in-None
returns-in-None c =
    kept-ruled c.args.self.now.map c.args.change.now c.holds_together.ensures (sym (ap (λ p. p.crush) c.parts.ensures.value) ∙ c.in-None.is)
