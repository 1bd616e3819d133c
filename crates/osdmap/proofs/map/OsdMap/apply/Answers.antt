use Rattle.std.proofs.Common.{ap, ◌∙◌}
use Rattle.osdmap.specs.Changes.{apply}
use Rattle.osdmap.proofs.map.OsdMap.apply.Goals as goal

pub returns-clause-next : goal.returns-clause-next
unfolding apply
returns-clause-next c = ap (λ m. m.epoch) c.change_to.ensures ∙ c.epoch.ensures ∙ c.requires.next
