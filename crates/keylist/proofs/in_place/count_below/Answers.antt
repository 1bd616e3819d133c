use Rattle.std.proofs.Common.{rules, arith, ltb}
use Rattle.std.proofs.lemmas.Bool.{ltb-true}
use Rattle.std.proofs.lemmas.Bool.Decides.{nat_tests}
use Rattle.std.proofs.lemmas.List.Sorted.{IsPartitionPoint-from_clause, IsPartitionedBy-ltb}
use Rattle.keylist.proofs.in_place.count_below.Goals as goal

pub returns-clause-below : goal.returns-clause-below
returns-clause-below g c = λ k d low.
    let key = g.K.Keyed.key_of in
    let parted = IsPartitionedBy-ltb key c.args.list.now c.args.key c.requires in
    let point = IsPartitionPoint-from_clause (λ y. ltb (key y) c.args.key) _ _ c.partition_point.ensures.partitioned parted (λ a r q k. search rules) in
    ltb-true _ _ (point.0 k d (omega (arith, low, c.partition_point.ensures.bound)) low)

pub returns-clause-above : goal.returns-clause-above
returns-clause-above g c = λ k d most inside.
    let key = g.K.Keyed.key_of in
    let parted = IsPartitionedBy-ltb key c.args.list.now c.args.key c.requires in
    let point = IsPartitionPoint-from_clause (λ y. ltb (key y) c.args.key) _ _ c.partition_point.ensures.partitioned parted (λ a r q k. search rules) in
    let past = point.1 k d most inside in
    grind (arith, nat_tests, past)
