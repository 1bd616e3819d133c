use Rattle.std.proofs.Common.{◌≤◌, sym, arith}
use Rattle.std.proofs.lemmas.Int.{ints}
use Rattle.crush.proofs.Ancestors.{ancestor_far}
use Rattle.crush.proofs.forest.Forest.ancestor_of_device.Goals as goal

-- a number that is no item's is past the last device
pub returns-in-Err : goal.returns-in-Err
returns-in-Err c =
    let far : 4096 ≤ c.args.osd = grind (arith, ints, c.in-Err.ensures) in
    rw (← c.self.view_is) (sym (ancestor_far c.self.inside.buckets.items c.args.osd c.args.level c.self.invariant far))
