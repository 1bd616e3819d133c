-- What a uniform bucket picks: its places in an order that x draws (Ceph, mapper.c, bucket_perm_choose).
use Rattle.std.specs.Prelude.{ℕ, zero, suc, ◌+◌, ◌%◌, List, [], ◌∷◌, drop, slice_index, slice_set}
use Rattle.std.specs.List.{range_with_len}
use Rattle.rjenkins.specs.Jenkins.{hash3_of}

-- n places drawn from the rest, from draw p on: draw p takes member `hash3 x id p mod n` out of the rest, and the head
-- of the rest moves into the hole
unfoldable pub places_drawn : ℕ → ℕ → ℕ → ℕ → List ℕ → List ℕ
places_drawn x id p zero rest = []
places_drawn x id p (suc n) rest =
    let k = hash3_of x id p % suc n in
    slice_index rest k ∷ places_drawn x id (p + 1) n (drop 1 (slice_set rest k (slice_index rest 0)))

-- the places of n items in the order that x draws
abbrev pub draw_order : ℕ → ℕ → ℕ → List ℕ
draw_order x id n = places_drawn x id 0 n (range_with_len 0 n)

-- the place that a uniform bucket of n items picks
unfoldable pub uniform_place : ℕ → ℕ → ℕ → ℕ → ℕ
uniform_place x id n r = slice_index (draw_order x id n) (r % n)
