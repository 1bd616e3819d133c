use Rattle.std.proofs.Common.{◌≡◌, map, take}
use Rattle.maptypes.proofs.exception_parts.entries_of.Given as goal

abbrev pub invariant-loop-part : goal.invariant-loop-part
invariant-loop-part g l = l.entries ≡ map g.P.StandsFor.entry_of (take l.part-index l.parts)
