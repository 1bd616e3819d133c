use Rattle.pgtable.proofs.rooms.Rooms.tables_in_turn.Goals as goal

pub table-requires : goal.table-requires
table-requires g c = (c.type_bounds.sync-R, rw (← c.pool-item.is) at (c.requires c.loop-pool.pool-index c.pool-item.result c.loop-pool-test.true))
