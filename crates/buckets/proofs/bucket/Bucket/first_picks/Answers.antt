use Rattle.std.proofs.Common.{ℕ, ◌<◌, SFits, w32, slice_index, ◌∙◌, rules, arith}
use Rattle.std.proofs.lemmas.Int.{to_z-of_z}
use Rattle.rjenkins.proofs.FourLanes.{below_four}
use Rattle.buckets.specs.Items.{item_at}
use Rattle.buckets.proofs.TreeWalks.{picked_at}
use Rattle.buckets.proofs.bucket.Bucket.first_picks.Goals as goal

pub returns : goal.returns
returns c =
    let places = c.in_ok-places.places in
    let items = c.deref-items.result.now in
    let fits0 : SFits w32 (item_at items (slice_index places 0)).id = search rules in
    let fits1 : SFits w32 (item_at items (slice_index places 1)).id = search rules in
    let fits2 : SFits w32 (item_at items (slice_index places 2)).id = search rules in
    let fits3 : SFits w32 (item_at items (slice_index places 3)).id = search rules in
    let picked = λ (r : ℕ) (low : r < 4) (fits : SFits w32 (item_at items (slice_index places r)).id).
    to_z-of_z w32 (item_at items (slice_index places r)).id fits ∙ picked_at c.args.self.now c.args.x r (slice_index places r) items c.deref-items.ensures (c.in_ok-places.ensures.place r low)
    in below_four _ (picked 0 (omega arith) fits0) (picked 1 (omega arith) fits1) (picked 2 (omega arith) fits2) (picked 3 (omega arith) fits3)
