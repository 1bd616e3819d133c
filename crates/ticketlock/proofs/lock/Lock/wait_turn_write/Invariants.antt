use Rattle.std.proofs.Common.{◌≡◌}
use Rattle.ticketlock.specs.Standing.{IsSame, sight_of}
use Rattle.ticketlock.specs.Traces.{IsFrom}
use Rattle.ticketlock.specs.Callers.{IsQueuedWriteOf}
use Rattle.ticketlock.proofs.lock.Lock.wait_turn_write.Given as goal

abbrev pub invariant-loop : goal.invariant-loop
invariant-loop g l =
    (goal.iterator-loop g).can_next l.iterator' × (goal.iterator-loop g).is_finite l.iterator' × IsQueuedWriteOf l.self l.waiting
    × IsSame l.fn.queued.place l.waiting.place × (l.waiting.place.draws ≡ l.fn.queued.place.draws)
    × IsFrom (sight_of l.fn.queued.place) (sight_of l.waiting.place)
