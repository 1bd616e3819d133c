use Rattle.std.proofs.Common.{◌≡◌, map}
use Rattle.std.specs.List.{range_with_len}
use Rattle.osdmap.specs.Maps.{ClusterMap}
use Rattle.pgtable.specs.Index.{count_of}
use Rattle.pgtable.specs.Tables.{IsTableOf}
use Rattle.verdict.proofs.counts.counted.Given as goal

abbrev pub invariant-loop-osd : goal.invariant-loop-osd
invariant-loop-osd l = (m : ClusterMap) → IsTableOf l.table m → l.counts.items ≡ map (count_of m) (range_with_len 0 l.osd)
