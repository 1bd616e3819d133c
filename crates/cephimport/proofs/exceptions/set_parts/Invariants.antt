use Rattle.std.proofs.Common.{◌≡◌, take}
use Rattle.std.specs.List.{filter_map}
use Rattle.cephimport.specs.Exceptions.{set_of_group}
use Rattle.cephimport.proofs.exceptions.set_parts.Given as goal

abbrev pub invariant-loop-set : goal.invariant-loop-set
invariant-loop-set l = l.parts.items ≡ filter_map (set_of_group l.map) (take l.set-index l.sets)
