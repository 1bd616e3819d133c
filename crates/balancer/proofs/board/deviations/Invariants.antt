use Rattle.std.proofs.Common.{◌≡◌, map}
use Rattle.std.specs.List.{range_with_len}
use Rattle.balancer.specs.Shares.{deviation, aim_of}
use Rattle.balancer.proofs.board.deviations.Given as goal

abbrev pub invariant-loop-osd : goal.invariant-loop-osd
invariant-loop-osd l = l.deviations.items ≡ map (deviation l.frame.map.now.map l.frame.pool (aim_of l.frame.carried.now l.frame.apart)) (range_with_len 0 l.osd)
