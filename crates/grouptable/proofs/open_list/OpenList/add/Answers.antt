use Rattle.std.proofs.Common.{length, arith}
use Rattle.grouptable.proofs.Merging.{rising_cut, added, present, with_rises}
use Rattle.grouptable.proofs.open_list.OpenList.add.Goals as goal

pub append-requires : goal.append-requires
append-requires c = rising_cut c.self.inside.merged c.self.inside.rest.now c.in-Err.at c.self.invariant

pub invariant_of-self-in-Continue-branch-2 : goal.invariant_of-self-in-Continue-branch-2
invariant_of-self-in-Continue-branch-2 c =
    with_rises c.args.group _ _ c.self.invariant (added c.self.inside.merged c.self.inside.rest.now c.append.new.self c.add_mostly_last.new.self c.args.group c.in-Err.at (length c.self.inside.rest.now) c.self.invariant c.in-Err.ensures.position c.in_ok-append.ensures.ok c.in_ok-add_mostly_last.ensures.ok (omega arith))

pub returns-in_ok-add_mostly_last : goal.returns-in_ok-add_mostly_last
returns-in_ok-add_mostly_last c =
    rw (← c.self.view_is) (added c.self.inside.merged c.self.inside.rest.now c.append.new.self c.add_mostly_last.new.self c.args.group c.in-Err.at (length c.self.inside.rest.now) c.self.invariant c.in-Err.ensures.position c.in_ok-append.ensures.ok c.in_ok-add_mostly_last.ensures.ok (omega arith))

pub returns-in_default : goal.returns-in_default
returns-in_default c =
    rw (← c.self.view_is) (present c.self.inside.merged c.self.inside.rest.now c.args.group c.in_default.field-0 c.self.invariant c.in_default.ensures.position)
