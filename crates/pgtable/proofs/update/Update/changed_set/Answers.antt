use Rattle.std.proofs.Common.{◌∙◌}
use Rattle.maptypes.proofs.NamedParts.{leaving}
use Rattle.pgtable.proofs.ChangedSets.{placed_then, small_then}
use Rattle.pgtable.proofs.update.Update.changed_set.Goals as goal

pub store_set-requires : goal.store_set-requires
store_set-requires c =
    let u = c.args.self.now in
    let s = leaving u.change.now (c.holds.ensures.is_source.leaves c.requires.before) in
    let explicit = rw c.explicit.ensures.value at c.explicit_after-explicit.ensures.value in
    let items = rw c.items.ensures.value at c.items_after-items.ensures.value in
    let is = placed_then _ _ c.args.pool.now _ _ _ _ _ s c.holds.ensures.leads.holds c.had_pool.ensures c.names_rise.ensures c.id.ensures explicit items c.in-Ok.ensures.set.1 in
    small_then u.before.now.map u.change.now c.args.pool.now c.args.number c.in-Ok.set c.holds.ensures.leads is

pub returns-in-Ok-clause-set : goal.returns-in-Ok-clause-set
returns-in-Ok-clause-set c =
    let u = c.args.self.now in
    let s = leaving u.change.now (c.holds.ensures.is_source.leaves c.requires.before) in
    let explicit = rw c.explicit.ensures.value at c.explicit_after-explicit.ensures.value in
    let items = rw c.items.ensures.value at c.items_after-items.ensures.value in
    let is = placed_then _ _ c.args.pool.now _ _ _ _ _ s c.holds.ensures.leads.holds c.had_pool.ensures c.names_rise.ensures c.id.ensures explicit items c.in-Ok.ensures.set.1 in
    c.store_set.ensures ∙ is
