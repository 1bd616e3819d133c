-- The rule holds at the start, each step keeps it, and it leaves a writer alone.
use Rattle.ticketlock.proofs.Runs.{starts, lasts, alone_writes}
use Rattle.ticketlock.specs.Law.{start}
use Rattle.ticketlock.proofs.laws.interleavings.Goals as goal

pub returns : goal.returns
returns c seats steps last few run = let k = lasts (start seats) steps last (starts seats few) run in (k, alone_writes last k)
