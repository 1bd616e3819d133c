use Rattle.maptypes.proofs.NamedParts.{leaving}
use Rattle.pgtable.proofs.ChangedSets.{pools_stay}
use Rattle.pgtable.proofs.update.Update.had_pool.Goals as goal

pub returns : goal.returns
returns c =
    let u = c.args.self.now in
    rw (pools_stay u.before.now.map u.change.now (leaving u.change.now (c.holds.ensures.is_source.leaves c.requires.before))) at c.requires.there
