use Rattle.std.proofs.Common.{◌≡◌}
use Rattle.ticketlock.proofs.lock.Lock.wait_hold_write.Given as goal

abbrev pub invariant-loop : goal.invariant-loop
invariant-loop g l =
    (goal.iterator-loop g).can_next l.iterator' × (goal.iterator-loop g).is_finite l.iterator' × (l.waiting ≡ l.fn.turn)
