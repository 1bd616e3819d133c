use Rattle.std.proofs.Common.{◌≡◌, ◌+◌, ◌≤◌, length, take}
use Rattle.std.specs.List.{suffix_len}
use Rattle.grouptable.specs.Sets.{is_end}
use Rattle.grouptable.proofs.osd_set.filled_len.Given as goal

abbrev pub invariant-loop-len : goal.invariant-loop-len
invariant-loop-len l = (l.len ≤ length l.row) × (l.len + suffix_len is_end l.row ≡ length l.row + suffix_len is_end (take l.len l.row))

abbrev pub decreases-loop-len : goal.decreases-loop-len
decreases-loop-len l = l.len
