use Rattle.std.proofs.Common.{length, arith}
use Rattle.grouptable.proofs.Merging.{rising_cut, removed, unremoved, without_rises}
use Rattle.grouptable.proofs.open_list.OpenList.remove.Goals as goal

pub append-requires : goal.append-requires
append-requires c = rising_cut c.self.inside.merged c.self.inside.rest.now c.in-Ok.at c.self.invariant

pub invariant_of-self-in-Ok : goal.invariant_of-self-in-Ok
invariant_of-self-in-Ok c =
    without_rises c.args.group _ _ c.self.invariant (removed c.self.inside.merged c.self.inside.rest.now c.append.new.self c.args.group c.in-Ok.at (length c.self.inside.rest.now) c.self.invariant c.in-Ok.ensures.position c.in_ok-append-in-Ok.ensures.ok (omega arith))

pub invariant_of-self-in-Err : goal.invariant_of-self-in-Err
invariant_of-self-in-Err c =
    without_rises c.args.group _ _ c.self.invariant (unremoved c.self.inside.merged c.self.inside.rest.now c.remove.new.self c.args.group _ c.self.invariant c.in-Err.ensures.position c.remove.ensures)

pub returns-in_ok-append-in-Ok : goal.returns-in_ok-append-in-Ok
returns-in_ok-append-in-Ok c =
    rw (← c.self.view_is) (removed c.self.inside.merged c.self.inside.rest.now c.append.new.self c.args.group c.in-Ok.at (length c.self.inside.rest.now) c.self.invariant c.in-Ok.ensures.position c.in_ok-append-in-Ok.ensures.ok (omega arith))

pub returns-in-Err : goal.returns-in-Err
returns-in-Err c =
    rw (← c.self.view_is) (unremoved c.self.inside.merged c.self.inside.rest.now c.remove.new.self c.args.group _ c.self.invariant c.in-Err.ensures.position c.remove.ensures)
