use Rattle.ticketlock.specs.Callers.{IsSeatOf}
use Rattle.ticketlock.proofs.tests.threads.raised.Given as goal

abbrev pub invariant-loop : goal.invariant-loop
invariant-loop g l = IsSeatOf l.lock l.free
