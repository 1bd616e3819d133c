use Rattle.std.proofs.Common.{◌≡◌, replicate, []}
use Rattle.grouptable.proofs.build.lists_with_room.Given as goal

abbrev pub invariant-loop-count : goal.invariant-loop-count
invariant-loop-count l = l.lists.items ≡ replicate l.count-index []
