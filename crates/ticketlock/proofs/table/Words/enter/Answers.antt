use Rattle.std.proofs.Common.{arith}
use Rattle.ticketlock.proofs.Moves.{may_enter}
use Rattle.ticketlock.proofs.table.Words.enter.Goals as goal

pub fetch_add-requires : goal.fetch_add-requires
fetch_add-requires c = (c.requires.own.0, omega arith, may_enter _ _ _ c.args.place.now.token.me c.requires.next.0 c.requires.next.1)
