use Rattle.pgtable.proofs.Found.{mapped_small}
use Rattle.pgtable.proofs.mapped.mapped_set.Goals as goal

pub store_set-requires : goal.store_set-requires
store_set-requires c = mapped_small c.args.placing.now.map.now.map c.args.placing.now.pool c.args.number c.in_ok-set.set c.holds_together.ensures c.in_ok-set.ensures.set
