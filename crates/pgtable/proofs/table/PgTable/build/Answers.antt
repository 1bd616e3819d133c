use Rattle.pgtable.proofs.Found.{few_tables, few_ups, rising_tables}
use Rattle.pgtable.proofs.Stretching.{own_pools}
use Rattle.pgtable.proofs.table.PgTable.build.Goals as goal

pub tables-requires-clause-there : goal.tables-requires-clause-there
tables-requires-clause-there g c = λ κs lives.
    rw c.pools.ensures (own_pools c.args.map.now.map c.holds_together.ensures)

pub invariant_of-result : goal.invariant_of-result
invariant_of-result g c = record {
  few_pools = rw (c.in_ok-pools.ensures.tables, c.pools.ensures) (few_tables c.args.map.now.map 256 c.holds_together.ensures.pools.few);
  pools_rise = rw (c.in_ok-pools.ensures.tables, c.pools.ensures) (rising_tables c.args.map.now.map c.holds_together.ensures);
  few_osds = rw c.in_ok-up.ensures (few_ups c.args.map.now.map 4096 c.holds_together.ensures.osds.few);
}
