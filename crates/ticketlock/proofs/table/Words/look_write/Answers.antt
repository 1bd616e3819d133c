use Rattle.std.proofs.Common.{arith}
use Rattle.ticketlock.proofs.Moves.{may_look_write}
use Rattle.ticketlock.proofs.table.Words.look_write.Goals as goal

pub load-requires : goal.load-requires
load-requires c = (c.requires.own.0, omega arith, may_look_write _ _ _ c.args.place.now.token.me c.requires.waits.0 c.requires.waits.1)
