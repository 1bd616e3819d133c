use Rattle.std.proofs.Common.{arith}
use Rattle.ticketlock.proofs.Moves.{may_leave}
use Rattle.ticketlock.proofs.table.Words.leave.Goals as goal

pub fetch_add-requires : goal.fetch_add-requires
fetch_add-requires c = (c.requires.own.0, omega arith, may_leave _ _ _ c.args.place.now.token.me c.requires.reads.0 c.requires.reads.1)
