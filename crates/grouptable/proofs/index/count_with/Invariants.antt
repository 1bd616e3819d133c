use Rattle.std.proofs.Common.{ℕ, ◌<◌, ◌≤◌, length, get_or}
use Rattle.grouptable.proofs.index.count_with.Given as goal

abbrev pub invariant-loop-osd : goal.invariant-loop-osd
invariant-loop-osd l = (length l.index ≤ l.count) × ((l.count ≤ 4096) × ((k : ℕ) → k < l.osd-index → get_or l.osds k 0 < l.count))
