use Rattle.std.proofs.Common.{refl, sym, ◌∙◌, w32}
use Rattle.std.specs.Ordering.{int_eq}
use Rattle.std.proofs.lemmas.Int.{to_z-of_z}
use Rattle.crush.proofs.PickableBuckets.{found, not_found}
use Rattle.crush.proofs.IdSearches.{placed}
use Rattle.crush.proofs.search.bucket_of.Goals as goal

pub returns-in_err-place : goal.returns-in_err-place
returns-in_err-place c =
    let place = placed c.args.buckets.now _ c.args.id _ _ (to_z-of_z w32 c.args.id c.ranges.id) refl c.place_of.ensures in
    rw c.from_residual.ensures (sym (not_found (λ b. int_eq b.id c.args.id) c.args.buckets.now (sym c.in_err-place.was ∙ place)))

pub returns : goal.returns
returns c =
    let place = placed c.args.buckets.now _ c.args.id _ _ (to_z-of_z w32 c.args.id c.ranges.id) refl c.place_of.ensures in
    sym (found (λ b. int_eq b.id c.args.id) c.args.buckets.now c.in_ok-place.place c.index-buckets-place.result (sym c.in_ok-place.was ∙ place) c.index-buckets-place.is)
