use Rattle.std.proofs.Common.{◌≡◌, ℕ, ◌+◌, ◌<◌, ◌^◌, List, ◌++◌, false, length}
use Rattle.session.specs.Sessions.{sight_by, session_of, IsAtDesk}
use Rattle.session.specs.Readings.{Passes}
use Rattle.session.proofs.desk.Desk.answer_lines.Given as goal

-- the lines before the rest are answered, each of which took a byte at least, and the session is at the desk
abbrev pub invariant-loop-first : goal.invariant-loop-first
invariant-loop-first g l =
    ((put : List ℕ) × Passes (session_of l.self.monitor.now (g.G.Gate.lets l.self.gate.now)) l.fn.progress.number
    (sight_by l.fn.member l.fn.progress.follower) l.text put l.progress.number (sight_by l.member l.progress.follower) l.rest
    × (g.W.Sink.written l.sink ≡ g.W.Sink.written l.fn.sink ++ put))
    × IsAtDesk l.self l.member l.progress (g.W.Sink.has_failed l.sink) false
    × (l.progress.number + length l.rest < 2 ^ 64)

abbrev pub decreases-loop-first : goal.decreases-loop-first
decreases-loop-first g l = length l.rest
