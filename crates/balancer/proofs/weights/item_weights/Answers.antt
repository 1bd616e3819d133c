use Rattle.std.proofs.Common.{◌+◌, ◌-◌, ◌<◌, ◌∙◌, ◌≡◌, length, drop, find, pos, ap, sym, arith}
use Rattle.std.specs.List.{flat_map}
use Rattle.std.specs.Option.{option_map_or}
use Rattle.std.specs.Ordering.{int_eq}
use Rattle.balancer.proofs.WeightsInBuckets.{entered_bucket, all_entered}
use Rattle.balancer.proofs.weights.item_weights.Goals as goal

pub loop-place-preserved : goal.loop-place-preserved
loop-place-preserved c = (
  λ osd below.
      let buckets = c.args.buckets.now in
      let k = c.loop-place.place - 1 in
      let next : k + 1 ≡ c.loop-place.place = omega arith in
      let inside : k < length buckets = omega arith in
      let so_far = c.loop-place.invariant.0 osd below ∙ ap (λ n. option_map_or (λ i. i.weight) (find (λ i. int_eq i.id (pos osd)) (flat_map (λ b. b.items) (drop n buckets))) 0) (sym next) in
      let long : osd < length c.loop-place.weights.items = omega (arith, c.loop-place.invariant.1, below) in
      let items : c.deref.result.now ≡ c.index-buckets-place.result.items = c.deref.ensures ∙ ap (λ b. b.items) (sym c.index-buckets-place.is) in
      entered_bucket buckets k osd _ _ c.index-buckets-place.result inside c.index-buckets-place.is (rw items at (c.enter.ensures.each osd long)) so_far,
  c.enter.ensures.long ∙ c.loop-place.invariant.1,
)

pub returns : goal.returns
returns c = all_entered c.args.buckets.now c.args.count c.loop-place.weights.items c.loop-place.place (omega (arith, c.loop-place-test.false)) c.loop-place.invariant.1 c.loop-place.invariant.0
