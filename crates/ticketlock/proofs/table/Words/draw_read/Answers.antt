use Rattle.std.proofs.Common.{arith}
use Rattle.ticketlock.proofs.Moves.{may_draw_read}
use Rattle.ticketlock.proofs.table.Words.draw_read.Goals as goal

pub fetch_add-ticket-requires : goal.fetch_add-ticket-requires
fetch_add-ticket-requires c = (c.requires.own.0, omega arith, may_draw_read _ _ _ c.args.place.now.token.me c.requires.idle (omega arith))
