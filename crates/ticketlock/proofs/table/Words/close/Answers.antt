use Rattle.std.proofs.Common.{arith}
use Rattle.ticketlock.proofs.Moves.{may_close}
use Rattle.ticketlock.proofs.table.Words.close.Goals as goal

pub fetch_add-requires : goal.fetch_add-requires
fetch_add-requires c = (c.requires.own.0, omega arith, may_close _ _ _ c.args.place.now.token.me c.requires.writes.0 c.requires.writes.1)
