use Rattle.std.proofs.Common.{◌≤◌, length}
use Rattle.grouptable.specs.Indexes.{HasTheSame}
use Rattle.grouptable.proofs.index.trim.Given as goal

abbrev pub invariant-loop-lists : goal.invariant-loop-lists
invariant-loop-lists l = (length l.lists.items ≤ length l.initial.lists.items) × HasTheSame l.initial.lists.items l.lists.items

abbrev pub decreases-loop-lists : goal.decreases-loop-lists
decreases-loop-lists l = length l.lists.items
