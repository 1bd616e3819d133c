use Rattle.std.proofs.Common.{◌≡◌, map}
use Rattle.std.specs.List.{range_with_len}
use Rattle.balancer.specs.Boards.{group_at}
use Rattle.balancer.proofs.group.groups.Given as goal

abbrev pub invariant-loop-number : goal.invariant-loop-number
invariant-loop-number l = l.groups.items ≡ map (group_at l.map.map l.pool) (range_with_len 0 l.number)
