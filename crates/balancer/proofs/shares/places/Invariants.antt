use Rattle.std.proofs.Common.{◌≡◌, ◌≤◌, ◌*◌, take}
use Rattle.std.specs.List.{sum_by}
use Rattle.pgtable.specs.Index.{count_in}
use Rattle.balancer.proofs.shares.places.Given as goal

abbrev pub invariant-loop-osd : goal.invariant-loop-osd
invariant-loop-osd l = (l.places ≡ sum_by (count_in l.map.map l.pool.id) (take l.osd-index l.osds)) × (l.places ≤ 65536 * l.osd-index)
