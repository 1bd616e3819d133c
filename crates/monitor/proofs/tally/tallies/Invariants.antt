use Rattle.std.proofs.Common.{◌≡◌, length, All}
use Rattle.monitor.specs.Tallies.{names_of, total_of, IsNewTallyOf}
use Rattle.monitor.proofs.tally.tallies.Given as goal

-- so many have a count, and none of them has made a change
abbrev pub invariant-loop-at : goal.invariant-loop-at
invariant-loop-at l =
    (length (names_of l.kept.items) ≡ l.at) × (total_of l.kept.items ≡ 0)
    × All (IsNewTallyOf (names_of l.kept.items)) l.tallies.items × (length l.tallies.items ≡ l.at)
