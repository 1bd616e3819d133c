use Rattle.std.proofs.Common.{◌≡◌, take}
use Rattle.std.specs.List.{filter_map}
use Rattle.cephimport.specs.Buckets.{slot_part}
use Rattle.cephimport.proofs.forest.slot_parts.Given as goal

abbrev pub invariant-loop-slot : goal.invariant-loop-slot
invariant-loop-slot l = l.parts.items ≡ filter_map (slot_part l.sets) (take l.slot-index l.slots)
