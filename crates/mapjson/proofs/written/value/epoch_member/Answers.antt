use Rattle.std.proofs.Common.{arith}
use Rattle.std.proofs.lemmas.Result.{on_ok_weaker}
use Rattle.mapjson.proofs.Pieces.{natural_read}
use Rattle.mapjson.proofs.written.value.epoch_member.Goals as goal

pub returns-clause-back : goal.returns-clause-back
returns-clause-back c = on_ok_weaker c.u64.result (λ e. natural_read c.args.epoch (omega arith)) c.u64.ensures.ok
