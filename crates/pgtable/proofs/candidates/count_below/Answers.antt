use Rattle.std.proofs.Common.{rules, arith, ltb}
use Rattle.std.proofs.lemmas.Bool.{ltb-true, ltb-false}
use Rattle.std.proofs.lemmas.List.Sorted.{IsPartitionPoint-from_clause, IsPartitionedBy-ltb}
use Rattle.keylist.proofs.KeyedOrder.{rising_ascends}
use Rattle.maptypes.specs.Exceptions.{pg_key}
use Rattle.pgtable.proofs.candidates.count_below.Goals as goal

pub returns-clause-below : goal.returns-clause-below
returns-clause-below c = λ k d low.
    let parted = IsPartitionedBy-ltb pg_key c.args.groups.now c.args.key (rising_ascends pg_key c.args.groups.now c.requires) in
    let point = IsPartitionPoint-from_clause (λ y. ltb (pg_key y) c.args.key) _ _ c.partition_point.ensures.partitioned parted (λ a r q k. search rules) in
    ltb-true _ _ (point.0 k d (omega (arith, low, c.partition_point.ensures.bound)) low)

pub returns-clause-above : goal.returns-clause-above
returns-clause-above c = λ k d high inside.
    let parted = IsPartitionedBy-ltb pg_key c.args.groups.now c.args.key (rising_ascends pg_key c.args.groups.now c.requires) in
    let point = IsPartitionPoint-from_clause (λ y. ltb (pg_key y) c.args.key) _ _ c.partition_point.ensures.partitioned parted (λ a r q k. search rules) in
    ltb-false _ _ (point.1 k d high inside)
