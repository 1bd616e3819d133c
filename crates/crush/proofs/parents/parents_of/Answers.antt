use Rattle.std.proofs.Common.{◌≡◌, ◌+◌, ◌-◌, ◌<◌, length, get_or, drop, find, slice_index, ap, sym, ◌∙◌, arith}
use Rattle.std.proofs.lemmas.Bool.{and_parts}
use Rattle.crush.specs.Paths.{has_item}
use Rattle.crush.specs.Slots.{slot}
use Rattle.crush.proofs.ForestLimits.{limits-buckets}
use Rattle.crush.proofs.ItemMarks.{items_known}
use Rattle.crush.proofs.ParentPlaces.{placed_none, placed_more}
use Rattle.crush.proofs.parents.parents_of.Goals as goal

pub loop-place-init : goal.loop-place-init
loop-place-init c = λ id known. placed_none c.args.buckets.now (limits-buckets c.args.buckets.now 4096 c.requires.limits) id known

pub enter-requires-clause-known : goal.enter-requires-clause-known
enter-requires-clause-known c =
    let buckets = c.args.buckets.now in
    let k = c.loop-place.place - 1 in
    let below = (and_parts _ _ (and_parts _ _ (and_parts _ _ c.requires.lawful).0).0).1 in
    let lt : k < length buckets = omega arith in
    let b = get_or buckets k c.index-buckets-place.result in
    rw c.deref.ensures (items_known buckets 4096 k b lt (ap (get_or buckets k) c.index-buckets-place.is) below)

pub loop-place-preserved : goal.loop-place-preserved
loop-place-preserved c = λ id known.
    let buckets = c.args.buckets.now in
    let k = c.loop-place.place - 1 in
    let b = get_or buckets k c.index-buckets-place.result in
    let before = slice_index c.loop-place.parents (slot buckets id) in
    let next : k + 1 ≡ c.loop-place.place = omega arith in
    placed_more buckets k _ before id b (omega arith) (ap (get_or buckets k) c.index-buckets-place.is) (rw c.deref.ensures at (c.enter.ensures id known)) (c.loop-place.invariant id known ∙ ap (λ n. find (has_item id) (drop n buckets)) (sym next))
