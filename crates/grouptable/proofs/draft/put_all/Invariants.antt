use Rattle.std.proofs.Common.{◌≡◌, length}
use Rattle.grouptable.specs.Sets.{groups_after}
use Rattle.grouptable.proofs.draft.put_all.Given as goal

abbrev pub invariant-loop-group : goal.invariant-loop-group
invariant-loop-group l = (l.sets ≡ groups_after l.initial.sets l.yielded) × (length l.sets.sets ≡ length l.initial.sets.sets) × (l.sets.width ≡ l.initial.sets.width) × ((goal.iterator-loop-group).can_next l.group-iterator × (goal.iterator-loop-group).is_finite l.group-iterator)
