use Rattle.std.proofs.Common.{sym, ◌∙◌, subst}
use Rattle.grouptable.specs.Keys.{AreRisingKeys}
use Rattle.grouptable.proofs.Order.{rising_with_key}
use Rattle.grouptable.proofs.Searches.{found_with, absent_with}
use Rattle.grouptable.proofs.group_list.GroupList.add.Goals as goal

pub returns-in_ok-insert-clause-ok : goal.returns-in_ok-insert-clause-ok
returns-in_ok-insert-clause-ok c = rw (← c.self.view_is) (c.in_ok-insert.ensures.ok ∙ absent_with _ c.args.group _ c.self.invariant (rw c.as_slice.ensures at c.in-Err.ensures.position))

pub invariant_of-self : goal.invariant_of-self
invariant_of-self c = subst AreRisingKeys (sym (returns-in_ok-insert-clause-ok c)) (rising_with_key c.args.group c.args.self.now (subst AreRisingKeys c.self.view_is c.self.invariant))

pub returns-in_default-clause-ok : goal.returns-in_default-clause-ok
returns-in_default-clause-ok c = rw (← c.self.view_is) (found_with _ c.args.group _ c.self.invariant (rw c.as_slice.ensures at c.in_default.ensures.position))
