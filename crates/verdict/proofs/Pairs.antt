-- The pairs that OSDs are by twos, one after another.
use Rattle.std.proofs.Common.{◌≡◌, ◌<◌, ◌+◌, ◌/◌, ℕ, List, [], ◌∷◌, ◌++◌, length, map, true, arith}
use Rattle.std.specs.List.{range_with_len}
use Rattle.std.proofs.lemmas.Bool.{and_parts, leb-true}
use Rattle.std.proofs.lemmas.List.FromFn.{map-range_with_len_more, length-map-range_with_len}
use Rattle.crush.specs.Limits.{max_size}
use Rattle.verdict.specs.Scripts.{pair_by_twos, stand_by_twos}

-- one pair more
pub pairs_more : (osds : List ℕ) (n : ℕ) → map (pair_by_twos osds) (range_with_len 0 (n + 1)) ≡ map (pair_by_twos osds) (range_with_len 0 n) ++ pair_by_twos osds n ∷ []
pairs_more osds n = map-range_with_len_more (pair_by_twos osds) 0 n n (omega arith)

-- there is room for one pair more
pub pairs_fit : (osds : List ℕ) (n : ℕ) → stand_by_twos osds ≡ true → n < length osds / 2 → length (map (pair_by_twos osds) (range_with_len 0 n)) < max_size
unfolding stand_by_twos
pairs_fit osds n are below =
    let few = leb-true (length osds / 2) max_size (and_parts _ _ are).1 in
    rw (length-map-range_with_len (pair_by_twos osds) 0 n) (omega (arith, few, below))
