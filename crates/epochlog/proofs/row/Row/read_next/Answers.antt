use Rattle.std.proofs.Common.{◌≡◌, ◌+◌, IfSome, sym, subst, length, rules}
use Rattle.epochlog.specs.Epochs.{epoch_of, IsRowSize}
use Rattle.epochlog.proofs.Numbered.{numbered_if}
use Rattle.epochlog.proofs.row.Row.read_next.Goals as goal

pub invariant_of-pass : goal.invariant_of-pass
invariant_of-pass c =
    let next : IfSome c.read_next_if.result (λ r. r.now.epoch ≡ epoch_of c.args.pass.now + 1) = search rules in (
      numbered_if (λ r. r.now) c.read_next_if.result c.pass.inside.first c.pass.inside.seen c.read_next_if.new.pass c.pass.invariant.0 c.read_next_if.ensures.shown c.read_next_if.ensures.unchanged
          (subst (λ s. IfSome c.read_next_if.result (λ r. r.now.epoch ≡ epoch_of s + 1)) (sym c.pass.view_is) next),
      subst (λ row. IsRowSize c.pass.inside.first (length row)) (sym c.read_next_if.ensures.row) c.pass.invariant.1,
    )
