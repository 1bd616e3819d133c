use Rattle.std.proofs.Common.{◌≡◌, ℕ, length}
use Rattle.grouptable.specs.Indexes.{draft_list}
use Rattle.grouptable.specs.Sets.{KeysBelow}
use Rattle.grouptable.proofs.index.put_lists.Given as goal

abbrev pub invariant-loop-osd : goal.invariant-loop-osd
invariant-loop-osd l =
    (length l.index.items ≡ length l.initial.index.items)
    × (KeysBelow (length l.index.items) l.fresh.entries
    × ((osd : ℕ) → draft_list l.index.items l.fresh.entries osd ≡ draft_list l.initial.index.items l.initial.fresh.entries osd))

abbrev pub decreases-loop-osd : goal.decreases-loop-osd
decreases-loop-osd l = length l.fresh.entries
