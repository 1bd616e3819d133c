use Rattle.std.proofs.Common.{refl, None, arith}
use Rattle.std.proofs.Output.{has_written_append}
use Rattle.maptypes.proofs.SetTexts.{next_place}
use Rattle.maptypes.proofs.up_set.write_places.Goals as goal

pub loop-place-preserved : goal.loop-place-preserved
loop-place-preserved g c = λ plain.
    let (done, wrote, whole) = c.loop-place.invariant plain in
    let comma = has_written_append _ _ _ _ _ _ wrote (c.in_ok-write_str.ensures.writes wrote.plain refl) in
    let place = has_written_append _ _ _ _ _ _ comma (c.in_ok-write_place-2.ensures comma.plain refl) in
    (_, place, next_place done _ _ c.loop-place.place-index _ None (omega arith) refl whole)
