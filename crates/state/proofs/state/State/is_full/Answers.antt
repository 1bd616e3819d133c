use Rattle.std.proofs.Common.{◌≡◌, ◌∙◌, ◌≤◌, ap, length, arith}
use Rattle.pgtable.specs.Rooms.{runs_of}
use Rattle.state.proofs.Journals.{epoch-kept}
use Rattle.epochlog.specs.Epochs.{Line, IsRowSize}
use Rattle.state.specs.States.{StateFacts, facts, max_epoch}
use Rattle.state.proofs.state.State.is_full.Goals as goal

pub returns-clause-early : goal.returns-clause-early
returns-clause-early g c =
    let k : StateFacts = facts c.self.inside.first.map c.self.inside.pass c.self.inside.map.map (runs_of c.self.inside.rooms) c.self.inside.keeper.has_failed in
    let row : k.pass.row ≡ c.args.row.now = ap (λ (s : StateFacts). s.pass.row) c.self.view_is ∙ c.requires in
    let limits : IsRowSize k.pass.row.first c.capacity.result = rw row c.capacity.ensures.limits in
    let cells = ap (λ (l : Line). length l.cells) row in
    let early : k.map.epoch ≤ max_epoch = omega (arith, epoch-kept k c.self.inside.table c.self.invariant.0, c.self.invariant.0.begins, limits.1, limits.3, c.capacity.ensures.capacity, cells, c.epoch.ensures.within) in
    rw (← c.self.view_is) early
