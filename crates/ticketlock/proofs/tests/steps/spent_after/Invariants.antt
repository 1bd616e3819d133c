use Rattle.ticketlock.specs.Callers.{IsSeatOf}
use Rattle.ticketlock.proofs.tests.steps.spent_after.Given as goal

abbrev pub invariant-loop-ticket : goal.invariant-loop-ticket
invariant-loop-ticket g l = IsSeatOf l.lock l.seat
