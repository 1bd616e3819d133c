-- a straw2 bucket picks the first of those with the longest straw
use Rattle.std.proofs.Common.{length, sym, subst}
use Rattle.buckets.specs.Straw2.{shortfall_at, least_place}
use Rattle.buckets.specs.Pick.{place_by}
use Rattle.buckets.proofs.Straws.{least_below, least_is}
use Rattle.crush_laws.specs.Picks.{IsFirstLongest, Straw2PicksFirstLongest}

-- the place of the least shortfall is that of the first longest straw
pub straw2_picks_first_longest : Straw2PicksFirstLongest
unfolding place_by
straw2_picks_first_longest b x r e p =
    let f = shortfall_at x r b.items in
    let is = least_is f (length b.items) in
    let here : IsFirstLongest x r b.items (least_place f (length b.items)) = record {
      within = least_below f (length b.items) p.some;
      longest = is.least;
      first = is.first;
    } in
    subst (λ k. IsFirstLongest x r b.items (place_by k b x r)) (sym e) here
