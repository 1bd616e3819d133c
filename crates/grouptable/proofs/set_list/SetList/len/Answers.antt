use Rattle.std.proofs.Common.{length, ap, sym, ◌∙◌, arith}
use Rattle.grouptable.specs.Sets.{GroupSets}
use Rattle.grouptable.proofs.Stored.{sets_count}
use Rattle.grouptable.proofs.set_list.SetList.len.Goals as goal

pub returns-clause-value : goal.returns-clause-value
returns-clause-value c =
    sym (sets_count c.self.inside.width c.self.inside.len c.self.inside.places.items)
    ∙ ap (λ (g : GroupSets). length g.sets) c.self.view_is

pub returns-clause-few : goal.returns-clause-few
returns-clause-few c = omega (arith, returns-clause-value c, c.self.invariant.few)
