use Rattle.std.proofs.Common.{sym, ◌∙◌, subst}
use Rattle.grouptable.specs.Keys.{AreRisingKeys}
use Rattle.grouptable.proofs.Order.{rising_filter}
use Rattle.grouptable.proofs.Searches.{found_without, absent_without}
use Rattle.grouptable.proofs.group_list.GroupList.remove.Goals as goal

pub returns-in-Ok : goal.returns-in-Ok
returns-in-Ok c = rw (← c.self.view_is) (c.remove.ensures.items ∙ found_without _ c.args.group _ c.self.invariant (rw c.as_slice.ensures at c.in-Ok.ensures.position))

pub invariant_of-self : goal.invariant_of-self
invariant_of-self c = subst AreRisingKeys (sym (returns-in-Ok c)) (rising_filter _ c.args.self.now (subst AreRisingKeys c.self.view_is c.self.invariant))

pub returns-in_default : goal.returns-in_default
returns-in_default c = rw (← c.self.view_is) (absent_without _ c.args.group _ c.self.invariant (rw c.as_slice.ensures at c.in_default.ensures.position))
