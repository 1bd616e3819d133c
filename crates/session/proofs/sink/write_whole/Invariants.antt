use Rattle.std.proofs.Common.{◌≡◌, false, length}
use Rattle.session.specs.Sinks.{HasPut}
use Rattle.session.proofs.sink.write_whole.Given as goal

-- all but the rest is put, no write has failed, and whether one may wait is as before
abbrev pub invariant-loop-rest : goal.invariant-loop-rest
invariant-loop-rest g l =
    HasPut (g.W.Sink.written l.initial.sink) l.bytes l.rest (g.W.Sink.written l.sink) × (g.W.Sink.has_failed l.sink ≡ false)
    × (g.W.Sink.waits l.sink ≡ g.W.Sink.waits l.initial.sink)

abbrev pub decreases-loop-rest : goal.decreases-loop-rest
decreases-loop-rest g l = length l.rest
