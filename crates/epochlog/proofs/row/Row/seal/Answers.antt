use Rattle.std.proofs.Common.{◌+◌, ap, sym, ◌∙◌, subst, length}
use Rattle.maptypes.specs.Incrementals.{Step}
use Rattle.epochlog.specs.Epochs.{epoch_of, IsRowSize}
use Rattle.epochlog.proofs.Numbered.{numbered_on}
use Rattle.epochlog.proofs.row.Row.seal.Goals as goal

pub invariant_of-pass : goal.invariant_of-pass
invariant_of-pass c = (
  numbered_on c.seal.result c.into_step-incremental.result.value c.pass.inside.first c.pass.inside.seen c.seal.new.pass c.pass.invariant.0 c.seal.ensures.sealed c.seal.ensures.unchanged
      (ap (λ (step : Step). step.epoch) c.into_step-incremental.ensures ∙ c.requires.next ∙ ap (λ s. epoch_of s + 1) (sym c.pass.view_is)),
  subst (λ row. IsRowSize c.pass.inside.first (length row)) (sym c.seal.ensures.row) c.pass.invariant.1,
)
