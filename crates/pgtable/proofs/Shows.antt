-- What the table of a map shows is what the map says.
use Rattle.std.proofs.Common.{◌≡◌, ◌∙◌, refl, sym, ap, ℕ, ◌<◌, Bool, true, false, ◌&&◌, eqb, List, [], ◌∷◌, length, get_or, map, Option, Some, None, inl, inr, arith}
use Rattle.std.specs.Prelude.{option_and_then, if◌then◌else◌, nat_lt, slice_get, slice_index_or}
use Rattle.std.specs.List.{All, find, filter, flat_map, range_with_len}
use Rattle.std.specs.Option.{option_map, option_map_or}
use Rattle.std.proofs.lemmas.Bool.{cases_Bool, lt-ltb, le-ltb, cases_lt}
use Rattle.std.proofs.lemmas.Bool.Decides.{nat_tests}
use Rattle.std.proofs.lemmas.List.Elements.{All-head, All-tail, filter-append, filter_agree}
use Rattle.std.proofs.lemmas.List.Concat.{flat_map-cons}
use Rattle.std.proofs.lemmas.List.{get_or_past, get_or_default, append-nil}
use Rattle.std.proofs.lemmas.List.FromFn.{length-map-range_with_len, get_or-map-range_with_len}
use Rattle.std.proofs.lemmas.Option.{slice_get_past, slice_get-get_or}
use Rattle.keylist.specs.Order.{IsRising}
use Rattle.keylist.proofs.KeyedOrder.{rising_head, rising_tail}
use Rattle.keylist.proofs.Each.{map-agree}
use Rattle.grouptable.specs.Sets.{set_of, groups_of}
use Rattle.grouptable.proofs.Steps.{filter_same}
use Rattle.maptypes.specs.declared.pg.Pg.{Pg}
use Rattle.maptypes.specs.Pools.{PoolFacts}
use Rattle.osdmap.specs.Maps.{ClusterMap, pool_at, osd_is_up}
use Rattle.maptypes.specs.Sets.{kept_places, stands}
use Rattle.osdmap.specs.Placement.{group_of, up_osd, mapped_set, up_set}
use Rattle.osdmap.proofs.StandingUp.{up_are_mapped_and_up}
use Rattle.pgtable.specs.declared.pool_table.PoolTable.{PoolTable}
use Rattle.pgtable.specs.Index.{up_at, groups_in, stands_in, index_of, count_in}
use Rattle.pgtable.specs.Tables.{TableFacts, sets_of, pool_table, tables_of, ups_of, IsTableOf, upward_in, shown_set, shown_at, pool_in, groups_on, shown_groups, shown_in}
use Rattle.pgtable.proofs.Found.{found_at}

-- ---- lists

-- what is made of entries is found by what they are
pub find_map : {X Y : Type 0} (p : Y → Bool) (f : X → Y) (xs : List X) → find p (map f xs) ≡ option_map f (find (λ x. p (f x)) xs)
find_map p f [] = refl
find_map p f (x ∷ xs) = elim (cases_Bool (p (f x))) [
  | inl here ↦ rw here refl
  | inr other ↦ rw (other, find_map p f xs) refl
]

-- and sifted by it
filter_map_over : {X Y : Type 0} (p : Y → Bool) (f : X → Y) (xs : List X) → filter p (map f xs) ≡ map f (filter (λ x. p (f x)) xs)
filter_map_over p f [] = refl
filter_map_over p f (x ∷ xs) = elim (cases_Bool (p (f x))) [
  | inl here ↦ rw (here, filter_map_over p f xs) refl
  | inr other ↦ rw (other, filter_map_over p f xs) refl
]

-- where none passes, none is left
filter_none : {X : Type 0} (p : X → Bool) → ((x : X) → p x ≡ false) → (xs : List X) → filter p xs ≡ []
filter_none p none [] = refl
filter_none p none (x ∷ xs) = rw (none x) (filter_none p none xs)

-- what is made of a range is found by number
slice_get_in : {X : Type 0} (f : ℕ → X) (n k : ℕ) → slice_get (map f (range_with_len 0 n)) k ≡ (if nat_lt k n then Some (f k) else None)
slice_get_in f n k = elim (cases_lt k n) [
  | inl below ↦
      let long = length-map-range_with_len f 0 n in
      rw (lt-ltb k n below) (slice_get-get_or (map f (range_with_len 0 n)) k (f k) (omega arith) ∙ ap (λ x. Some x) (get_or-map-range_with_len f 0 n k k (f k) below (omega arith)))
  | inr past ↦
      let long = length-map-range_with_len f 0 n in
      rw (le-ltb k n past) (slice_get_past (map f (range_with_len 0 n)) k (omega arith))
]

-- ---- who is up

-- the bit of an OSD says whether it is up
pub up_in : (m : ClusterMap) (osd : ℕ) → slice_index_or (ups_of m) osd false ≡ osd_is_up m osd
up_in m osd = elim (cases_lt osd (length m.presences)) [
  | inl below ↦ get_or-map-range_with_len (osd_is_up m) 0 (length m.presences) osd osd false below (omega arith)
  | inr past ↦
      let long = length-map-range_with_len (osd_is_up m) 0 (length m.presences) in
      get_or_past (ups_of m) osd false (omega arith) ∙ sym (rw (slice_get_past m.presences osd past) refl)
]

-- a place is dropped by its bit as by the map
upward_same : (m : ClusterMap) (place : Option ℕ) → option_and_then (upward_in (ups_of m)) place ≡ option_and_then (up_osd m) place
upward_same m None = refl
upward_same m (Some osd) = rw (up_in m osd) refl

-- ---- up sets

-- a mapped set without those that are down, by the bits, is the up set
set_shown : (m : ClusterMap) (p : PoolFacts) (n : ℕ) → kept_places p.kind (map (option_and_then (upward_in (ups_of m))) (mapped_set m p n)) ≡ up_set m p n
unfolding up_set
set_shown m p n = ap (kept_places p.kind) (map-agree (option_and_then (upward_in (ups_of m))) (option_and_then (up_osd m)) (upward_same m) (mapped_set m p n))

-- what a pool's table shows of a group is its up set
of_pool : (m : ClusterMap) (up : List Bool) (p : PoolFacts) (n : ℕ) → up ≡ ups_of m
    → option_map (λ set. kept_places p.kind (map (option_and_then (upward_in up)) set)) (slice_get (sets_of m p) n) ≡ (if nat_lt n p.pg_num then Some (up_set m p n) else None)
of_pool m up p n is = rw (is, slice_get_in (mapped_set m p) p.pg_num n) (elim (cases_Bool (nat_lt n p.pg_num)) [
  | inl below ↦ rw (below, set_shown m p n) refl
  | inr past ↦ rw past refl
])

-- what the table shows of a group is what the map says
pub up_shown : (t : TableFacts) (m : ClusterMap) (g : Pg) → IsTableOf t m → shown_at t g ≡ up_at m g
up_shown t m g is = rw (is.pools, find_map (λ (q : PoolTable). eqb q.pool.id g.pool) (pool_table m) m.pools) (by_pool (pool_at m.pools g.pool))
  where
    by_pool : (p : Option PoolFacts) → option_and_then (λ q. option_map (shown_set t q) (slice_get q.groups.sets g.number)) (option_map (pool_table m) p) ≡ option_and_then (λ q. if nat_lt g.number q.pg_num then Some (up_set m q g.number) else None) p
    by_pool None = refl
    by_pool (Some p) = of_pool m t.up p g.number is.up

-- ---- mapped sets

-- the table of a pool is what the map says of it
pub pool_shown : (t : TableFacts) (m : ClusterMap) (id : ℕ) → IsTableOf t m → pool_in t id ≡ option_map (pool_table m) (pool_at m.pools id)
pool_shown t m id is = rw is.pools (find_map (λ (q : PoolTable). eqb q.pool.id id) (pool_table m) m.pools)

-- the set of a group that is there is its mapped set
pub mapped_shown : (q : PoolTable) (m : ClusterMap) (p : PoolFacts) (n : ℕ) → q ≡ pool_table m p → n < p.pg_num → slice_get q.groups.sets n ≡ Some (mapped_set m p n)
mapped_shown q m p n is below = rw (is, slice_get_in (mapped_set m p) p.pg_num n, lt-ltb n p.pg_num below) refl

-- ---- the index

-- the groups of a pool in whose mapped set an OSD stands
numbers_held : (m : ClusterMap) (osd : ℕ) (p : PoolFacts) → groups_of osd (sets_of m p) ≡ filter (λ n. stands osd (mapped_set m p n)) (range_with_len 0 p.pg_num)
numbers_held m osd p =
    rw (length-map-range_with_len (mapped_set m p) 0 p.pg_num)
    (filter_same (λ n. stands osd (mapped_set m p n)) (λ n. stands osd (set_of (sets_of m p) n)) 0 p.pg_num
    (λ n low high. ap (stands osd) (get_or-map-range_with_len (mapped_set m p) 0 p.pg_num n n [] (omega arith) (omega arith))))

-- and with true is the first
and_true : (b : Bool) → (b && true) ≡ b
and_true true = refl
and_true false = refl

-- and with false is false
and_false : (b : Bool) → (b && false) ≡ false
and_false true = refl
and_false false = refl

-- what is shown of a pool is what stands in its up sets
held_up : (m : ClusterMap) (osd : ℕ) (p : PoolFacts) → osd_is_up m osd ≡ true → groups_on osd (pool_table m p) ≡ map (group_of p) (filter (λ n. stands osd (up_set m p n)) (range_with_len 0 p.pg_num))
held_up m osd p up =
    ap (map (group_of p)) (numbers_held m osd p ∙ filter_agree (λ n. stands osd (mapped_set m p n)) (λ n. stands osd (up_set m p n))
    (λ n. sym (up_are_mapped_and_up m p n osd ∙ rw up (and_true (stands osd (mapped_set m p n))))) (range_with_len 0 p.pg_num))

-- an OSD that is down stands in none
none_down : (m : ClusterMap) (osd : ℕ) (p : PoolFacts) → osd_is_up m osd ≡ false → filter (λ n. stands osd (up_set m p n)) (range_with_len 0 p.pg_num) ≡ []
none_down m osd p down =
    filter_none (λ n. stands osd (up_set m p n)) (λ n. up_are_mapped_and_up m p n osd ∙ rw down (and_false (stands osd (mapped_set m p n)))) (range_with_len 0 p.pg_num)

-- each pool of a map is what is found of its id
abbrev IsFound : ClusterMap → PoolFacts → Type 0
IsFound m p = pool_at m.pools p.id ≡ Some p

-- each pool is found by its id
all_found : (m : ClusterMap) → IsRising (λ p. p.id) m.pools → All (IsFound m) m.pools
all_found m rises k d inside = found_at (λ (p : PoolFacts). p.id) m.pools k (get_or m.pools k d) rises inside (get_or_default m.pools k d (get_or m.pools k d) inside)

-- the part of the index that one pool is
part_found : (m : ClusterMap) (osd : ℕ) (p : PoolFacts) → IsFound m p → filter (stands_in m osd) (groups_in p) ≡ map (group_of p) (filter (λ n. stands osd (up_set m p n)) (range_with_len 0 p.pg_num))
part_found m osd p found =
    filter_map_over (stands_in m osd) (group_of p) (range_with_len 0 p.pg_num)
    ∙ ap (map (group_of p)) (filter_agree (λ n. stands_in m osd (group_of p n)) (λ n. stands osd (up_set m p n)) (λ n. rw found refl) (range_with_len 0 p.pg_num))

-- the groups of an OSD that is up are those that the tables hold
index_up : (m : ClusterMap) (osd : ℕ) (ps : List PoolFacts) → osd_is_up m osd ≡ true → All (IsFound m) ps → flat_map (groups_on osd) (map (pool_table m) ps) ≡ filter (stands_in m osd) (flat_map groups_in ps)
index_up m osd [] up found = refl
index_up m osd (p ∷ ps) up found =
    let rest = index_up m osd ps up (All-tail (IsFound m) p ps found) in
    let here = held_up m osd p up ∙ sym (part_found m osd p (All-head (IsFound m) p ps found)) in
    flat_map-cons (groups_on osd) (pool_table m p) (map (pool_table m) ps)
    ∙ rw (here, rest) (sym (ap (filter (stands_in m osd)) (flat_map-cons groups_in p ps) ∙ filter-append (stands_in m osd) (groups_in p) (flat_map groups_in ps)))

-- an OSD that is down has none
index_down : (m : ClusterMap) (osd : ℕ) (ps : List PoolFacts) → osd_is_up m osd ≡ false → All (IsFound m) ps → filter (stands_in m osd) (flat_map groups_in ps) ≡ []
index_down m osd [] down found = refl
index_down m osd (p ∷ ps) down found =
    let rest = index_down m osd ps down (All-tail (IsFound m) p ps found) in
    let here = part_found m osd p (All-head (IsFound m) p ps found) ∙ ap (map (group_of p)) (none_down m osd p down) in
    ap (filter (stands_in m osd)) (flat_map-cons groups_in p ps) ∙ filter-append (stands_in m osd) (groups_in p) (flat_map groups_in ps) ∙ rw (here, rest) refl

-- the groups that are shown of an OSD are its index
index_shown : (m : ClusterMap) (osd : ℕ) (b : Bool) → IsRising (λ p. p.id) m.pools → osd_is_up m osd ≡ b → (if b then flat_map (groups_on osd) (tables_of m) else []) ≡ index_of m osd
index_shown m osd true rises is = index_up m osd m.pools is (all_found m rises)
index_shown m osd false rises is = sym (index_down m osd m.pools is (all_found m rises))

-- so the table's groups of an OSD are those that the map says
pub groups_shown : (t : TableFacts) (m : ClusterMap) (osd : ℕ) → IsTableOf t m → shown_groups t osd ≡ index_of m osd
groups_shown t m osd is = rw (is.pools, is.up, up_in m osd) (index_shown m osd (osd_is_up m osd) is.holds.pools.rise refl)

-- ---- the index in a pool

-- groups of another pool are none of this one
other_pool : (id : ℕ) (p : PoolFacts) (xs : List ℕ) → eqb p.id id ≡ false → filter (λ g. eqb g.pool id) (map (group_of p) xs) ≡ []
other_pool id p [] other = refl
other_pool id p (x ∷ xs) other = rw other (other_pool id p xs other)

-- groups of this one all are
this_pool : (id : ℕ) (p : PoolFacts) (xs : List ℕ) → eqb p.id id ≡ true → filter (λ g. eqb g.pool id) (map (group_of p) xs) ≡ map (group_of p) xs
this_pool id p [] here = refl
this_pool id p (x ∷ xs) here = rw (here, this_pool id p xs here) refl

module _ (numbers : PoolFacts → List ℕ) (id : ℕ) where
  abbrev part : PoolFacts → List Pg
  part p = map (group_of p) (numbers p)

  other_pools : (ps : List PoolFacts) → All (λ p. eqb p.id id ≡ false) ps → filter (λ g. eqb g.pool id) (flat_map part ps) ≡ []
  other_pools [] others = refl
  other_pools (p ∷ ps) others =
      ap (filter (λ g. eqb g.pool id)) (flat_map-cons part p ps) ∙ filter-append (λ g. eqb g.pool id) (part p) (flat_map part ps)
      ∙ rw (other_pool id p (numbers p) (All-head (λ q. eqb q.id id ≡ false) p ps others), other_pools ps (All-tail (λ q. eqb q.id id ≡ false) p ps others)) refl

  in_pool : (ps : List PoolFacts) → IsRising (λ p. p.id) ps → filter (λ g. eqb g.pool id) (flat_map part ps) ≡ option_map_or part (find (λ p. eqb p.id id) ps) []
  in_pool [] rises = refl
  in_pool (p ∷ ps) rises =
      let split = ap (filter (λ g. eqb g.pool id)) (flat_map-cons part p ps) ∙ filter-append (λ g. eqb g.pool id) (part p) (flat_map part ps) in
      let rest = in_pool ps (rising_tail (λ (q : PoolFacts). q.id) p ps rises) in
      elim (cases_Bool (eqb p.id id)) [
        | inl here ↦
            let later = other_pools ps (λ k d inside. above p.id (get_or ps k d).id (rising_head (λ (q : PoolFacts). q.id) p ps rises k d inside) here) in
            split ∙ rw (here, this_pool id p (numbers p) here, later) (append-nil (part p))
        | inr other ↦ split ∙ rw (other, other_pool id p (numbers p) other) rest
      ]
    where
      above : (a b : ℕ) → a < b → eqb a id ≡ true → eqb b id ≡ false
      above a b less here = grind (arith, nat_tests)

-- the index, pool by pool
index_parts : (m : ClusterMap) (osd : ℕ) (ps : List PoolFacts) → All (IsFound m) ps → filter (stands_in m osd) (flat_map groups_in ps) ≡ flat_map (part (λ p. filter (λ n. stands osd (up_set m p n)) (range_with_len 0 p.pg_num)) 0) ps
index_parts m osd [] found = refl
index_parts m osd (p ∷ ps) found =
    let rest = index_parts m osd ps (All-tail (IsFound m) p ps found) in
    let here = part_found m osd p (All-head (IsFound m) p ps found) in
    ap (filter (stands_in m osd)) (flat_map-cons groups_in p ps) ∙ filter-append (stands_in m osd) (groups_in p) (flat_map groups_in ps)
    ∙ rw (here, rest) (sym (flat_map-cons (part (λ q. filter (λ n. stands osd (up_set m q n)) (range_with_len 0 q.pg_num)) 0) p ps))

-- what is counted of one pool is its part of the index
count_of_pool : (m : ClusterMap) (osd : ℕ) (b : Bool) (p : Option PoolFacts) → osd_is_up m osd ≡ b
    → (if b then option_map_or (λ q. length (groups_on osd q)) (option_map (pool_table m) p) 0 else 0) ≡ length (option_map_or (λ q. map (group_of q) (filter (λ n. stands osd (up_set m q n)) (range_with_len 0 q.pg_num))) p [])
count_of_pool m osd true None is = refl
count_of_pool m osd true (Some p) is = ap length (held_up m osd p is)
count_of_pool m osd false None is = refl
count_of_pool m osd false (Some p) is = rw (none_down m osd p is) refl

-- so the table's count in a pool is the one that the map says
pub count_shown : (t : TableFacts) (m : ClusterMap) (pool osd : ℕ) → IsTableOf t m → shown_in t pool osd ≡ count_in m pool osd
count_shown t m pool osd is =
    let parts = index_parts m osd m.pools (all_found m is.holds.pools.rise) in
    let one = in_pool (λ p. filter (λ n. stands osd (up_set m p n)) (range_with_len 0 p.pg_num)) pool m.pools is.holds.pools.rise in
    rw (is.pools, is.up, up_in m osd, find_map (λ (q : PoolTable). eqb q.pool.id pool) (pool_table m) m.pools)
    (count_of_pool m osd (osd_is_up m osd) (pool_at m.pools pool) refl ∙ sym (ap length (ap (filter (λ g. eqb g.pool pool)) parts ∙ one)))
