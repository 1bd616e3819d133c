use Rattle.std.proofs.Common.{◌≡◌, map, take}
use Rattle.maptypes.specs.Values.{item_of}
use Rattle.maptypes.proofs.forest_parts.items_of.Given as goal

abbrev pub invariant-loop-part : goal.invariant-loop-part
invariant-loop-part l = l.items.items ≡ map item_of (take l.part-index l.parts)
