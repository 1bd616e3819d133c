use Rattle.std.proofs.Common.{◌≡◌, ℕ, ◌+◌, ◌≤◌, List, ◌++◌, false, length}
use Rattle.session.specs.Sessions.{sight_in, session_of}
use Rattle.session.specs.Readings.{Passes}
use Rattle.session.proofs.desk.Desk.answer_more.Given as goal

-- the lines before the rest are answered, each of which took a byte at least; no write has failed, and none waits; with what is left of the hold they are 31 at most
abbrev pub invariant-loop-left : goal.invariant-loop-left
invariant-loop-left g l =
    ((put : List ℕ) × Passes (session_of l.self.monitor.now (g.G.Gate.lets l.self.gate.now)) l.fn.progress.number
    (sight_in l.hold.shared.now l.hold.member.now l.fn.progress.follower) l.text put l.progress.number (sight_in l.hold.shared.now l.hold.member.now l.fn.progress.follower) l.rest
    × (g.W.Sink.written l.sink ≡ g.W.Sink.written l.fn.sink ++ put))
    × (g.W.Sink.has_failed l.sink ≡ false) × (g.W.Sink.waits l.sink ≡ false) × (l.progress.follower ≡ l.fn.progress.follower)
    × (l.progress.number + length l.rest ≤ l.fn.progress.number + length l.text) × (length l.rest ≤ length l.text)
    × (l.progress.number + l.left ≤ l.fn.progress.number + 31)

abbrev pub decreases-loop-left : goal.decreases-loop-left
decreases-loop-left g l = l.left
