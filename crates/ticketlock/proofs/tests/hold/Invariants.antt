use Rattle.ticketlock.specs.Callers.{IsTurnWriteOf}
use Rattle.ticketlock.proofs.tests.hold.Given as goal

abbrev pub invariant-loop : goal.invariant-loop
invariant-loop g l = IsTurnWriteOf l.lock l.next
