use Rattle.std.proofs.Common.{◌≡◌, ℕ, ◌<◌, ◌≤◌, [], length, get_or}
use Rattle.grouptable.proofs.Listing.{groups_below}
use Rattle.grouptable.proofs.build.add_groups.Given as goal

abbrev pub invariant-loop-group : goal.invariant-loop-group
invariant-loop-group l = (length l.lists.items ≤ 4096) × ((osd : ℕ) → osd < 4096 → get_or l.lists.items osd [] ≡ groups_below osd l.sets.sets l.group)
