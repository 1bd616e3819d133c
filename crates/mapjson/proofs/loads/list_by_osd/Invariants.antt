use Rattle.std.proofs.Common.{◌≡◌, map}
use Rattle.std.specs.List.{range_with_len}
use Rattle.mapjson.specs.LoadTexts.{carried_of}
use Rattle.mapjson.proofs.loads.list_by_osd.Given as goal

abbrev pub invariant-loop-osd : goal.invariant-loop-osd
invariant-loop-osd l = l.list.items ≡ map (carried_of l.loads) (range_with_len 0 l.osd)
