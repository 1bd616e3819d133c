-- Sets of groups of pools that are there, and how great what they name is.
use Rattle.std.proofs.Common.{◌≡◌, refl, ℕ, zero, suc, ◌<◌, ◌≤◌, true, false, eqb, List, [], ◌∷◌, length, get_or, Option, Some, None, arith}
use Rattle.std.specs.Prelude.{IfSome, nat_lt}
use Rattle.std.specs.List.{All, find}
use Rattle.std.proofs.lemmas.Bool.Decides.{nat_tests}
use Rattle.std.proofs.lemmas.List.{length-map, get_or-map}
use Rattle.std.proofs.lemmas.List.FromFn.{length-range_with_len, length-map-range_with_len}
use Rattle.keylist.specs.Order.{IsRising}
use Rattle.keylist.proofs.KeyedOrder.{rising_head, rising_tail}
use Rattle.maptypes.specs.Pools.{PoolFacts}
use Rattle.osdmap.specs.Maps.{ClusterMap, osd_exists, HoldsTogether}
use Rattle.osdmap.specs.Placement.{mapped_set}
use Rattle.osdmap.proofs.Named.{below_max}
use Rattle.osdmap.proofs.MappedExist.{mapped_exist}
use Rattle.pgtable.specs.Tables.{sets_of, ups_of, pool_table, table_id, tables_of}

-- an element of a list with rising keys is what is found of its key
pub found_at : {X : Type 0} (key : X → ℕ) (xs : List X) (i : ℕ) (x : X) → IsRising key xs → i < length xs → x ≡ get_or xs i x → find (λ y. eqb (key y) (key x)) xs ≡ Some x
found_at key [] i x rises inside is = absurd (omega arith)
found_at key (y ∷ ys) zero x rises inside is =
    let same : eqb (key y) (key y) ≡ true = grind (arith, nat_tests) in
    rw (is, same) refl
found_at key (y ∷ ys) (suc i) x rises inside is =
    let later : key y < key (get_or ys i x) = rising_head key y ys rises i x (omega arith) in
    let below : key y < key x = rw (← is) at later in
    let other : eqb (key y) (key x) ≡ false = grind (arith, nat_tests) in
    rw (other, found_at key ys i x (rising_tail key y ys rises) (omega arith) is) refl

-- ---- mapped sets

-- an OSD that exists is below 4,096
small_place : (m : ClusterMap) (place : Option ℕ) → length m.presences ≤ 4096 → IfSome place (λ osd. osd_exists m osd ≡ true) → IfSome place (λ osd. osd < 4096)
small_place m None few is = tt
small_place m (Some osd) few is = let below : nat_lt osd 4096 ≡ true = below_max m osd 4096 few is in grind (arith, nat_tests)

-- so are all of a mapped set
pub mapped_small : (m : ClusterMap) (p : PoolFacts) (n : ℕ) (set : List (Option ℕ)) → HoldsTogether m → set ≡ mapped_set m p n → All (λ place. IfSome place (λ osd. osd < 4096)) set
mapped_small m p n set holds is k d inside = small_place m (get_or set k d) holds.osds.few (rw (← is) at (mapped_exist m p n holds) k d inside)

-- a pool has at most 65,536 sets
pub few_sets : (m : ClusterMap) (p : PoolFacts) (sets : List (List (Option ℕ))) → p.pg_num ≤ 65536 → sets ≡ sets_of m p → length sets ≤ 65536
few_sets m p sets few is = rw is (omega (arith, length-map-range_with_len (mapped_set m p) 0 p.pg_num))

-- ---- sizes

-- there are as many tables as pools
pub few_tables : (m : ClusterMap) (n : ℕ) → length m.pools ≤ n → length (tables_of m) ≤ n
few_tables m n few = omega (arith, length-map m.pools (pool_table m))

-- their pools rise as well
pub rising_tables : (m : ClusterMap) → HoldsTogether m → IsRising table_id (tables_of m)
rising_tables m holds i j d less inside =
    let last : j < length m.pools = omega (arith, length-map m.pools (pool_table m), inside) in
    let first = get_or-map (pool_table m) m.pools i d.pool d (omega arith) in
    let second = get_or-map (pool_table m) m.pools j d.pool d last in
    rw (first, second) (holds.pools.rise i j d.pool less last)

-- and as many bits as OSDs
pub few_ups : (m : ClusterMap) (n : ℕ) → length m.presences ≤ n → length (ups_of m) ≤ n
few_ups m n few = simp (length-map, length-range_with_len) few
