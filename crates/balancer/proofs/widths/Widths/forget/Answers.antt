use Rattle.std.proofs.Common.{◌∙◌, refl, None}
use Rattle.std.proofs.lemmas.List.Folds.{list_any_more}
use Rattle.maptypes.specs.Sets.{is_of}
use Rattle.balancer.proofs.widths.Widths.forget.Goals as goal

pub loop-place-preserved : goal.loop-place-preserved
loop-place-preserved c = λ f b known.
    let left = c.open.ensures f b known in
    let before = c.loop-place.invariant f b left.0 in
    (before.0, list_any_more (is_of f) c.args.places.now c.loop-place.place-index None c.loop-place-test.true ∙ rw (before.1, left.1) refl)
