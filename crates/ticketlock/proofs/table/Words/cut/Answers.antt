use Rattle.std.proofs.Common.{arith}
use Rattle.ticketlock.proofs.Splitting.{may_cut}
use Rattle.ticketlock.proofs.table.Words.cut.Goals as goal

pub split_seat-token-requires : goal.split_seat-token-requires
split_seat-token-requires c = (c.requires.own.0, omega arith, may_cut _ _ c.args.place.now.token.me.0 c.requires.spare)
