use Rattle.std.proofs.Common.{◌≡◌, ℕ, [], length, get_or}
use Rattle.grouptable.proofs.index.move_to.Given as goal

abbrev pub invariant-loop-list : goal.invariant-loop-list
invariant-loop-list l =
    (l.osd ≡ length l.yielded)
    × ((length l.index.items ≡ length l.initial.index.items)
    × (((k : ℕ) → get_or l.index.items k [] ≡ get_or l.yielded k [])
    × ((goal.iterator-loop-list).can_next l.list-iterator × (goal.iterator-loop-list).is_finite l.list-iterator)))
