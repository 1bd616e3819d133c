use Rattle.std.proofs.Common.{◌<◌, arith}
use Rattle.monitor.proofs.Followers.{all_applied}
use Rattle.monitor.proofs.follower.Follower.go_on.Goals as goal

pub returns-clause-ends : goal.returns-clause-ends
returns-clause-ends c =
    let some : 0 < c.loop.counter = omega (arith, c.capacity-end.ensures.capacity, c.capacity-end.ensures.limits) in
    let (front, few) = c.loop.invariant.2 some in
    all_applied c.loop.self c.capacity-end.result front (omega (arith, c.loop.invariant.1)) (omega (arith, few, c.capacity-end.ensures.capacity))
