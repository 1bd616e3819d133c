use Rattle.std.proofs.Common.{◌≤◌, length}
use Rattle.grouptable.proofs.build.count_places.Given as goal

abbrev pub invariant-loop-i : goal.invariant-loop-i
invariant-loop-i l = length l.counts.items ≤ 4096
