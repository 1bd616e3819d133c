use Rattle.std.proofs.Common.{pos, ◌∙◌, length-set, arith}
use Rattle.std.proofs.lemmas.List.Sums.{sum_by_more}
use Rattle.buckets.specs.declared.bucket.Item.{Item}
use Rattle.buckets.proofs.TreeWalks.{sums_more}
use Rattle.buckets.proofs.pick.tree.sums_of.Goals as goal

pub loop-place-preserved : goal.loop-place-preserved
loop-place-preserved c =
    let items = c.args.items.now in
    let l = c.loop-place in
    let no_item : Item = record { id = pos 0; weight = 0 } in
    let more = sum_by_more (λ (i : Item). i.weight) items l.place no_item (omega arith) in
    record {
      room = length-set _ _ _ ∙ l.invariant.room;
      weighed = omega (arith, l.invariant.weighed, more);
      added = sums_more items l.sums l.place _ (omega (arith, l.invariant.room)) (omega (arith, l.invariant.weighed, more)) l.invariant.added;
    }
