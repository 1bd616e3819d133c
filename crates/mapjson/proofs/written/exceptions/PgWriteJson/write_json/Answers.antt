use Rattle.std.proofs.lemmas.Result.{on_ok_weaker}
use Rattle.mapjson.proofs.Named.{parts_of_group}
use Rattle.mapjson.proofs.written.exceptions.PgWriteJson.write_json.Goals as goal

pub returns-clause-named : goal.returns-clause-named
returns-clause-named c = on_ok_weaker c.string.result (λ e. parts_of_group _ c.args.self.now c.group_text_is_read_back.ensures) c.string.ensures.ok
