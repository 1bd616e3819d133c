use Rattle.std.proofs.Common.{◌≡◌, ◌≤◌, ◌*◌, ◌^◌, take}
use Rattle.std.specs.List.{sum_by}
use Rattle.balancer.specs.Shares.{weight_in_map}
use Rattle.balancer.proofs.shares.total.Given as goal

abbrev pub invariant-loop-osd : goal.invariant-loop-osd
invariant-loop-osd l = (l.total ≡ sum_by (weight_in_map l.map.map) (take l.osd-index l.osds)) × (l.total ≤ 2 ^ 48 * l.osd-index)
