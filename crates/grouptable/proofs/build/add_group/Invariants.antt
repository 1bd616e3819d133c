use Rattle.std.proofs.Common.{◌≡◌, ℕ, ◌<◌, ◌≤◌, [], false, length, get_or, map, take}
use Rattle.grouptable.specs.Sets.{after_joining, place_stored}
use Rattle.maptypes.specs.Sets.{stands}
use Rattle.grouptable.proofs.build.add_group.Given as goal

abbrev pub invariant-loop-i : goal.invariant-loop-i
invariant-loop-i l = (length l.lists.items ≤ 4096) × ((osd : ℕ) → osd < 4096 → get_or l.lists.items osd [] ≡ after_joining false (stands osd (take l.i (map place_stored l.set))) l.group (get_or l.initial.lists.items osd []))
