-- The rule holds where the lock is made, each step and each cut keeps it, and it leaves a writer alone.
use Rattle.ticketlock.proofs.Runs.{alone_writes}
use Rattle.ticketlock.proofs.Made.{starts_made, lasts_made}
use Rattle.ticketlock.specs.Law.{made_with}
use Rattle.ticketlock.proofs.laws.interleavings_made.Goals as goal

pub returns : goal.returns
returns c seats events last some few run = let k = lasts_made (made_with seats) events last (starts_made seats some few) run in (k, alone_writes last k)
