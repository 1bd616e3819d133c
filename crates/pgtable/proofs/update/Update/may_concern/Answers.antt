use Rattle.std.proofs.Common.{◌∙◌}
use Rattle.pgtable.proofs.Concerning.{concerned_found}
use Rattle.pgtable.proofs.update.Update.may_concern.Goals as goal

pub returns : goal.returns
returns c = λ none.
    let u = c.args.self.now in
    let candidates = c.holds.ensures.candidates in
    rw c.deref.ensures.value at (c.may_be_in.ensures none u.source.now.map u.change.now)
    ∙ concerned_found u.source.now.map u.change.now c.args.pool.now u.groups.items candidates.rising candidates.all
