use Rattle.std.proofs.Common.{◌≡◌}
use Rattle.std.specs.List.{filter, range_with_len}
use Rattle.balancer.specs.Shares.{is_candidate}
use Rattle.balancer.proofs.shares.candidates.Given as goal

abbrev pub invariant-loop-osd : goal.invariant-loop-osd
invariant-loop-osd l = l.osds.items ≡ filter (is_candidate l.map.map l.pool) (range_with_len 0 l.osd)
