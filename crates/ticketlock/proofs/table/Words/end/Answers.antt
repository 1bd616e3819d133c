use Rattle.std.proofs.Common.{arith}
use Rattle.ticketlock.proofs.Moves.{may_end}
use Rattle.ticketlock.proofs.table.Words.end.Goals as goal

pub fetch_add-requires : goal.fetch_add-requires
fetch_add-requires c = (c.requires.own.0, omega arith, may_end _ _ _ c.args.place.now.token.me c.requires.closes.0 c.requires.closes.1)
