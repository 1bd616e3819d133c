use Rattle.std.proofs.Common.{sym, ◌∙◌}
use Rattle.maptypes.proofs.NamedParts.{leaving}
use Rattle.pgtable.specs.After.{map_after}
use Rattle.pgtable.proofs.ChangedSets.{none_touched}
use Rattle.pgtable.proofs.update.Update.is_touched.Goals as goal

pub returns-else-self-clause-value : goal.returns-else-self-clause-value
returns-else-self-clause-value c =
    let u = c.args.self.now in
    let s = leaving u.change.now (c.holds.ensures.is_source.leaves c.if-self.false) in
    c.if-self.false ∙ sym (none_touched (map_after u) u.change.now c.args.pool.now s)
