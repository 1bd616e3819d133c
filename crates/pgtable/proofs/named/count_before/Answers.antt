use Rattle.std.proofs.Common.{rules, arith, ltb}
use Rattle.std.proofs.lemmas.Bool.{ltb-true}
use Rattle.std.proofs.lemmas.List.Sorted.{IsPartitionPoint-from_clause, IsPartitionedBy-ltb}
use Rattle.keylist.proofs.KeyedOrder.{rising_ascends}
use Rattle.pgtable.specs.Tables.{table_id}
use Rattle.pgtable.proofs.named.count_before.Goals as goal

pub returns-clause-below : goal.returns-clause-below
returns-clause-below c = λ k d low.
    let parted = IsPartitionedBy-ltb table_id c.args.tables.now c.args.id (rising_ascends table_id c.args.tables.now c.requires) in
    let point = IsPartitionPoint-from_clause (λ y. ltb (table_id y) c.args.id) _ _ c.partition_point.ensures.partitioned parted (λ a r q k. search rules) in
    ltb-true _ _ (point.0 k d (omega (arith, low, c.partition_point.ensures.bound)) low)
