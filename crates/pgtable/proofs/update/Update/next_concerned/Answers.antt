use Rattle.std.proofs.Common.{◌∙◌}
use Rattle.pgtable.proofs.Concerning.{concerned_found}
use Rattle.pgtable.proofs.Slicing.{none_in_pool}
use Rattle.pgtable.proofs.update.Update.next_concerned.Goals as goal

pub returns-clause-others : goal.returns-clause-others
returns-clause-others c = λ k q from less is few.
    let u = c.args.self.now in
    let candidates = c.holds.ensures.candidates in
    let none = rw c.deref.ensures.value at (c.next_named.ensures.others k q from less is few) in
    none_in_pool u.source.now.map u.change.now q.pool u.groups.items none ∙ concerned_found u.source.now.map u.change.now q.pool u.groups.items candidates.rising candidates.all
