use Rattle.std.proofs.Common.{◌≡◌, map, take}
use Rattle.maptypes.specs.Values.{step_of}
use Rattle.maptypes.proofs.rule_parts.steps_of.Given as goal

abbrev pub invariant-loop-part : goal.invariant-loop-part
invariant-loop-part l = l.steps.items ≡ map step_of (take l.part-index l.parts)
