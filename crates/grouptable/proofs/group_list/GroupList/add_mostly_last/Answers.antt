use Rattle.std.proofs.Common.{sym, ◌∙◌, subst}
use Rattle.grouptable.specs.Keys.{AreRisingKeys}
use Rattle.grouptable.proofs.Order.{rising_with_key}
use Rattle.grouptable.proofs.Listing.{with_key_last}
use Rattle.grouptable.proofs.group_list.GroupList.add_mostly_last.Goals as goal

pub returns-then-ends_below-clause-ok : goal.returns-then-ends_below-clause-ok
returns-then-ends_below-clause-ok c = c.in_ok-push.ensures.ok ∙ rw c.self.view_is (sym (with_key_last c.args.group c.args.self.now (c.ends_below.ensures c.if-ends_below.true)))

pub invariant_of-self-then-ends_below : goal.invariant_of-self-then-ends_below
invariant_of-self-then-ends_below c = subst AreRisingKeys (sym (returns-then-ends_below-clause-ok c)) (rising_with_key c.args.group c.args.self.now (subst AreRisingKeys c.self.view_is c.self.invariant))
