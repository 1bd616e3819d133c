-- Failure domains that are stored by OSD.
use Rattle.std.proofs.Common.{◌≡◌, ◌∙◌, ℕ, ◌<◌, List, length, get_or, map, Option, arith}
use Rattle.std.specs.Prelude.{ℤ}
use Rattle.std.specs.List.{range_with_len}
use Rattle.std.proofs.lemmas.List.FromFn.{get_or-map-range_with_len, length-map-range_with_len}
use Rattle.osdmap.specs.Maps.{ClusterMap}
use Rattle.balancer.specs.Moves.{domain_of, domains_of, last_level}

-- what is stored for a number is what belongs to it
stored_at : (f : ℕ → Option ℤ) (n k : ℕ) (d : Option ℤ) → k < length (map f (range_with_len 0 n)) → d ≡ get_or (map f (range_with_len 0 n)) k d → d ≡ f k
stored_at f n k d inside e = e ∙ get_or-map-range_with_len f 0 n k k d (omega (arith, inside, length-map-range_with_len f 0 n)) (omega arith)

-- the same of failure domains, by the last of some types
pub domain_stored : (m : ClusterMap) (levels own : List ℕ) (osd : ℕ) (domains got : List (Option ℤ)) (d : Option ℤ) → domains ≡ domains_of m (last_level levels) → levels ≡ own → got ≡ domains → osd < length got → d ≡ get_or got osd d → d ≡ domain_of m (last_level own) osd
domain_stored m levels own osd domains got d is level same inside e =
    let stored = rw level at is in
    let here = rw (same, stored) at inside in
    let found = rw (same, stored) at e in
    stored_at (domain_of m (last_level own)) (length m.presences) osd d here found
