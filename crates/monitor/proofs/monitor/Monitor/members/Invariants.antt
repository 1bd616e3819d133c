use Rattle.std.proofs.Common.{◌≡◌, ◌+◌, length}
use Rattle.std.specs.List.{All}
use Rattle.monitor.specs.Members.{IsNewMemberOf}
use Rattle.monitor.specs.Tallies.{IsNewTallyOf}
use Rattle.monitor.proofs.monitor.Monitor.members.Given as goal

-- each seat so far has its member, and a tally is left for each of the others
abbrev pub invariant-loop-seat : goal.invariant-loop-seat
invariant-loop-seat g l =
    (length l.members.items ≡ length l.yielded) × All (IsNewMemberOf l.self) l.members.items
    × All (IsNewTallyOf l.self.tallies) l.left.items × (length l.left.items + length l.yielded ≡ length l.fn.seats.items)
