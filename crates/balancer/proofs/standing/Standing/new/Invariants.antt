use Rattle.std.proofs.Common.{◌≡◌, take, length}
use Rattle.balancer.specs.Standing.{AreRowsOf}
use Rattle.balancer.proofs.standing.Standing.new.Given as goal

-- so far the groups passed are known
abbrev pub invariant-loop-number : goal.invariant-loop-number
invariant-loop-number l = AreRowsOf (take l.number l.groups) l.standing × (length l.standing ≡ l.count)
