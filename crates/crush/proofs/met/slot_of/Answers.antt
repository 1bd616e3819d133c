use Rattle.std.proofs.Common.{refl, w32}
use Rattle.std.specs.Ordering.{int_eq}
use Rattle.std.proofs.lemmas.Int.{to_z-of_z}
use Rattle.crush.proofs.ItemMarks.{known-found, is_some-position}
use Rattle.crush.proofs.IdSearches.{placed}
use Rattle.crush.proofs.met.slot_of.Goals as goal

pub unwrap-requires : goal.unwrap-requires
unwrap-requires c =
    let shown = to_z-of_z w32 c.args.item c.ranges.item in
    let place = placed c.args.buckets.now _ c.args.item _ _ shown refl c.place_of.ensures in
    let found = known-found c.args.buckets.now c.args.item (rw shown at c.in-Err.ensures) c.ranges.item c.requires.known in
    rw place (is_some-position (λ b. int_eq b.id c.args.item) c.args.buckets.now found)
