use Rattle.std.proofs.Common.{◌≡◌, ◌+◌, ◌*◌, length, slice_index, ap, ◌∙◌, arith}
use Rattle.buckets.specs.Items.{item_at}
use Rattle.buckets.specs.Straw2.{shortfall, shortfall_at, least_place}
use Rattle.buckets.proofs.Straws.{shortfall_small, none_longest, longer_within, least_below}
use Rattle.buckets.proofs.pick.straw2.straw2_pick.Goals as goal

pub loop-block-init : goal.loop-block-init
loop-block-init c = none_longest _ _ (omega arith)

pub loop-at-preserved : goal.loop-at-preserved
loop-at-preserved c =
    let a = c.args in
    let l = c.loop-at in
    let n = 4 * c.loop-block.block + l.at in
    let place = slice_index c.places_from-places.result l.at in
    let drawn = ap (shortfall (item_at a.items.now place).weight) (c.hashes_at-hashes.ensures l.at c.loop-at-test.true) in
    longer_within (shortfall_at a.x a.r a.items.now) (length a.items.now) n (4 * c.loop-block.block + (l.at + 1)) place _ l.longest c.with-longest.result c.requires.some (omega arith) (c.places_from-places.ensures l.at c.loop-at-test.true) drawn (shortfall_small _ _) c.with-longest.ensures l.invariant

pub returns-clause-within : goal.returns-clause-within
returns-clause-within c =
    let f = shortfall_at c.args.x c.args.r c.args.items.now in
    let n = length c.args.items.now in
    let low = least_below f n c.requires.some in
    let found : c.loop-block.longest.place ≡ least_place f n = c.loop-block.invariant.place ∙ ap (least_place f) (omega arith) in
    omega arith

pub returns-then-items-eq1-clause-place : goal.returns-then-items-eq1-clause-place
returns-then-items-eq1-clause-place c =
    let f = shortfall_at c.args.x c.args.r c.args.items.now in
    let low = least_below f (length c.args.items.now) c.requires.some in
    omega (arith, low, c.if-items-eq1.true)
