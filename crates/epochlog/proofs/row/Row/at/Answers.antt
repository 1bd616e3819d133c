use Rattle.std.proofs.Common.{◌≡◌, ◌+◌, ◌-◌, ◌≤◌, ◌<◌, length, slice_get, arith, ap, sym, ◌∙◌}
use Rattle.epochlog.specs.Epochs.{epoch_of}
use Rattle.epochlog.proofs.Numbered.{last_is, epoch_at, contained}
use Rattle.epochlog.proofs.row.Row.at.Goals as goal

-- the epoch is after the row's first and not after that of the pass
bounds : (c : goal.After-pass) → (c.self.inside.first < c.args.epoch) × (c.args.epoch ≤ c.self.inside.first + length c.pass.inside.seen.history) × (c.pass.inside.first ≡ c.self.inside.first)
bounds c =
    let row = ap (λ l. l.first) c.self.view_is in
    let same : c.pass.inside.first ≡ c.self.inside.first = ap (λ s. s.row.first) c.pass.view_is ∙ (ap (λ l. l.first) c.requires.row ∙ sym row) in (
      omega (arith, row, c.requires.after),
      omega (arith, same, ap epoch_of c.pass.view_is, last_is c.pass.inside.first c.pass.inside.seen.history c.pass.invariant.0, c.requires.seen),
      same,
    )

pub at-requires-clause-seen : goal.at-requires-clause-seen
at-requires-clause-seen c = omega (arith, (bounds c).0, (bounds c).1)

pub returns-clause-epoch : goal.returns-clause-epoch
returns-clause-epoch c =
    let row = ap (λ l. l.first) c.self.view_is in
    let same : c.pass.inside.first ≡ c.self.inside.first = ap (λ s. s.row.first) c.pass.view_is ∙ (ap (λ l. l.first) c.requires.row ∙ sym row) in
    omega (arith, row, same, c.requires.after, epoch_at c.pass.inside.first c.pass.inside.seen.history (c.args.epoch - c.self.inside.first - 1) c.at.result.now c.pass.invariant.0 c.at.ensures)

pub returns-clause-shown : goal.returns-clause-shown
returns-clause-shown c =
    contained c.args.pass.now.history (c.args.epoch - c.self.inside.first - 1) c.at.result.now
    (ap (λ s. slice_get s.history (c.args.epoch - c.self.inside.first - 1)) (sym c.pass.view_is) ∙ c.at.ensures)
