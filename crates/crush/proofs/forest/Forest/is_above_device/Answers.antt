use Rattle.std.proofs.Common.{sym, arith, ◌≤◌}
use Rattle.std.proofs.lemmas.Int.{ints}
use Rattle.crush.proofs.Climbs.{above-far}
use Rattle.crush.proofs.forest.Forest.is_above_device.Goals as goal

-- a number that is no item's is past the last device
pub returns-in-Err : goal.returns-in-Err
returns-in-Err c =
    let far : 4096 ≤ c.args.osd = grind (arith, ints, c.in-Err.ensures) in
    rw (← c.self.view_is) (sym (above-far c.self.inside.buckets.items c.self.invariant c.args.bucket c.args.osd far))
