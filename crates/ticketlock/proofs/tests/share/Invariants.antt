use Rattle.ticketlock.specs.Callers.{IsTurnReadOf}
use Rattle.ticketlock.proofs.tests.share.Given as goal

abbrev pub invariant-loop : goal.invariant-loop
invariant-loop g l = IsTurnReadOf l.lock l.next
