use Rattle.std.proofs.Common.{◌≡◌, ℕ, List, ◌++◌, false}
use Rattle.std.specs.Io.KnownBytes.{Consumes}
use Rattle.session.specs.Sessions.{sight_by, first_sight, session_of, IsAtDesk}
use Rattle.session.specs.Readings.{IsUnended, Passes}
use Rattle.session.proofs.desk.Desk.read_lines.Given as goal

-- the lines of what was read are answered but the one that has begun, and the session is at the desk
abbrev pub invariant-loop : goal.invariant-loop
invariant-loop g l =
    ((read : List ℕ) × (put : List ℕ) × Consumes (g.B.Read.remaining l.fn.reader) (g.B.Read.remaining l.reader) read
    × Passes (session_of l.self.monitor.now (g.G.Gate.lets l.self.gate.now)) 1 (first_sight l.fn.member) read put l.reading.progress.number
    (sight_by l.member l.reading.progress.follower) l.reading.begun.items
    × (g.W.Sink.written l.sink ≡ g.W.Sink.written l.fn.sink ++ put))
    × IsAtDesk l.self l.member l.reading.progress (g.W.Sink.has_failed l.sink) false × IsUnended l.reading.begun.items
