use Rattle.std.proofs.Common.{length, refl, rules}
use Rattle.server.proofs.Outs.{kept_more}
use Rattle.server.proofs.out.OutSink.write.Goals as goal

pub returns-clause-puts : goal.returns-clause-puts
returns-clause-puts g c =
    kept_more c.args.self.now.gone.bytes c.args.self.now.kept.bytes.items c.args.bytes.now c.extend_from_slice.new.self.items (length c.args.bytes.now)
    (search rules) refl
