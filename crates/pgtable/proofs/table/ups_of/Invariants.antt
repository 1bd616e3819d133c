use Rattle.std.proofs.Common.{◌≡◌, map}
use Rattle.std.specs.List.{range_with_len}
use Rattle.osdmap.specs.Maps.{osd_is_up}
use Rattle.pgtable.proofs.table.ups_of.Given as goal

abbrev pub invariant-loop-osd : goal.invariant-loop-osd
invariant-loop-osd l = l.up.items ≡ map (osd_is_up l.map.map) (range_with_len 0 l.osd)
