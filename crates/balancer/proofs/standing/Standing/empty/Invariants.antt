use Rattle.std.proofs.Common.{◌≡◌, [], replicate}
use Rattle.balancer.proofs.standing.Standing.empty.Given as goal

abbrev pub invariant-loop-osd : goal.invariant-loop-osd
invariant-loop-osd l = l.rows.items ≡ replicate l._osd []
