use Rattle.std.proofs.Common.{take}
use Rattle.balancer.specs.Shares.{AreSmall}
use Rattle.balancer.proofs.shares.are_small.Given as goal

abbrev pub invariant-loop-groups : goal.invariant-loop-groups
invariant-loop-groups l = AreSmall (take l.groups-index l.carried)
