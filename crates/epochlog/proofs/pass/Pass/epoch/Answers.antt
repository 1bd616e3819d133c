use Rattle.std.proofs.Common.{◌+◌, ap, sym, ◌∙◌}
use Rattle.epochlog.specs.Epochs.{epoch_of}
use Rattle.epochlog.proofs.Numbered.{last_is}
use Rattle.epochlog.proofs.pass.Pass.epoch.Goals as goal

pub returns-clause-epoch : goal.returns-clause-epoch
returns-clause-epoch c =
    ap (λ n. c.self.inside.first + n) c.len.ensures.len ∙ (sym (last_is c.self.inside.first c.self.inside.seen.history c.self.invariant.0) ∙ ap epoch_of c.self.view_is)
