use Rattle.std.proofs.Common.{◌∙◌, rules}
use Rattle.server.proofs.Outs.{all_gone}
use Rattle.server.proofs.out.OutSink.flush.Goals as goal

pub returns-clause-same : goal.returns-clause-same
returns-clause-same g c =
    all_gone c.args.self.now.gone.bytes c.args.self.now.kept.bytes.items c.with-self.result.bytes c.shrink_to.new.self.items c.with-self.ensures
    (c.shrink_to.ensures.items ∙ search rules)
