use Rattle.std.proofs.Common.{◌≡◌}
use Rattle.pgtable.specs.After.{map_after}
use Rattle.pgtable.proofs.update.Update.placed_set.Goals as goal

pub placing-placing-requires : goal.placing-placing-requires
placing-placing-requires c = rw (c.holds.ensures.is_source.after c.requires.after) c.requires.there

pub returns-clause-set : goal.returns-clause-set
returns-clause-set c =
    let is_source : c.args.self.now.source.now.map ≡ map_after c.args.self.now = c.holds.ensures.is_source.after c.requires.after in
    rw (c.placing-placing.ensures.map, c.placing-placing.ensures.pool, is_source) at c.mapped_set.ensures.set
