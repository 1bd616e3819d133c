use Rattle.std.proofs.Common.{◌≡◌, ℕ, ◌<◌, take}
use Rattle.grouptable.specs.Sets.{groups_of, sets_after}
use Rattle.grouptable.specs.Indexes.{draft_list}
use Rattle.grouptable.proofs.table.GroupTable.redraw_many.Given as goal

abbrev pub invariant-loop-group : goal.invariant-loop-group
invariant-loop-group l = (osd : ℕ) → osd < 4096 → draft_list l.self-inside.index.items l.merge osd ≡ groups_of osd (sets_after l.self-inside.sets.sets (take l.group-index l.changes))
