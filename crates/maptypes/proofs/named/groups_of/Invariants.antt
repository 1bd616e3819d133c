use Rattle.std.proofs.Common.{◌≡◌, take}
use Rattle.maptypes.specs.Named.{excepted_groups}
use Rattle.maptypes.proofs.named.groups_of.Given as goal

abbrev pub invariant-loop-exception : goal.invariant-loop-exception
invariant-loop-exception g l = l.groups.items ≡ excepted_groups (take l.exception-index l.exceptions)
