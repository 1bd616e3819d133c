use Rattle.std.proofs.Common.{◌≤◌, length}
use Rattle.grouptable.proofs.build.places_of_each.Given as goal

abbrev pub invariant-loop-group : goal.invariant-loop-group
invariant-loop-group l = length l.counts.items ≤ 4096
