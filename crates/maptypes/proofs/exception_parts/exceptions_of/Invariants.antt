use Rattle.std.proofs.Common.{◌≡◌, map, take}
use Rattle.maptypes.specs.Values.{exception_of}
use Rattle.maptypes.proofs.exception_parts.exceptions_of.Given as goal

abbrev pub invariant-loop-part : goal.invariant-loop-part
invariant-loop-part g l = l.exceptions.items ≡ map (exception_of g.P.StandsFor.entry_of) (take l.part-index l.parts)
