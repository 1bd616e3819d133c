use Rattle.std.proofs.lemmas.Result.{on_ok_weaker}
use Rattle.mapjson.proofs.Pieces.{integer_read}
use Rattle.mapjson.proofs.written.value.integer.Goals as goal

pub returns-clause-back : goal.returns-clause-back
returns-clause-back c = on_ok_weaker c.i64.result (λ e. integer_read c.args.number c.ranges.number) c.i64.ensures.ok
