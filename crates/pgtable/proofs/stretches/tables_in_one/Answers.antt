use Rattle.pgtable.proofs.stretches.tables_in_one.Goals as goal

pub all_mapped_sets-requires : goal.all_mapped_sets-requires
all_mapped_sets-requires c = rw (← c.pool-item.is) at (c.requires c.loop-pool.pool-index c.pool-item.result c.loop-pool-test.true)
