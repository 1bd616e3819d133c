use Rattle.std.proofs.Common.{◌≡◌, take}
use Rattle.std.specs.List.{filter_map}
use Rattle.cephimport.specs.Exceptions.{pairs_part}
use Rattle.cephimport.proofs.exceptions.pair_parts.Given as goal

abbrev pub invariant-loop-group : goal.invariant-loop-group
invariant-loop-group l = l.parts.items ≡ filter_map (pairs_part l.map) (take l.group-index l.groups)
