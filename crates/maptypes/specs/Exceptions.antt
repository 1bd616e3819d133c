-- Exceptions: what is said of a group beside its pool's rule (Ceph, OSDMap.h: pg_upmap, pg_upmap_items).
use Rattle.std.specs.Prelude.{ℕ, ◌+◌, ◌*◌, ◌^◌, ◌==◌, not, Bool, false, ◌&&◌, nat_lt, nat_le, List, [], ◌∷◌, length, Option, Some, None}
use Rattle.std.specs.List.{list_all, fold, filter}
use Rattle.std.specs.Option.{option_map, option_map_or}
use Rattle.maptypes.specs.declared.pg.Pg.{Pg}
use Rattle.maptypes.specs.declared.exception.Exception.{Exception}
use Rattle.maptypes.specs.declared.exception.Pair.{Pair}
use Rattle.keylist.specs.Keys.{is_distinct, has_key, entry_at}
use Rattle.keylist.specs.Puts.{put}
use Rattle.maptypes.specs.Pools.{PoolFacts}

-- ---- groups

-- the key by which groups are ordered: by pool, then by number, which has 32 bits
abbrev pub pg_key : Pg → ℕ
pg_key g = g.pool * 2 ^ 32 + g.number

-- whether a group is among some
abbrev pub is_among : List Pg → Pg → Bool
is_among gs g = has_key pg_key gs (pg_key g)

-- whether a pool of an id is there
abbrev pub has_pool : List PoolFacts → ℕ → Bool
has_pool pools id = has_key (λ p. p.id) pools id

-- whether the pool of a group is there
unfoldable pub has_pool_of : List PoolFacts → Pg → Bool
has_pool_of pools g = has_pool pools g.pool

-- whether a group is there: its pool is, and has as many groups
abbrev pub has_group : List PoolFacts → Pg → Bool
has_group pools g = option_map_or (λ p. nat_lt g.number p.pg_num) (entry_at (λ p. p.id) pools g.pool) false

-- ---- exceptions

-- the key of an exception: that of its group
abbrev pub key_of : {E : Type 0} → Exception E → ℕ
key_of e = pg_key e.pg

-- what a list of exceptions says of a group
abbrev pub said_of : {E : Type 0} → List (Exception E) → Pg → Option (List E)
said_of es g = option_map (λ e. e.entries) (entry_at key_of es (pg_key g))

-- the OSDs that an entry of an explicit set names
abbrev pub target : ℕ → List ℕ
target osd = osd ∷ []

-- the OSDs that a pair names
abbrev pub sides : Pair → List ℕ
sides p = p.from ∷ p.to ∷ []

-- one OSD, or two
abbrev pub one_or_two : ℕ → Option ℕ → List ℕ
one_or_two osd None = osd ∷ []
one_or_two osd (Some other) = osd ∷ other ∷ []

-- the pair that stands for none, in a place that has no entry
abbrev pub blank_pair : Pair
blank_pair = record { from = 0; to = 0 }

-- whether each OSD that an exception names passes a test
abbrev pub all_named : {E : Type 0} → (E → List ℕ) → (ℕ → Bool) → Exception E → Bool
all_named names p e = list_all (λ entry. list_all p (names entry)) e.entries

-- an explicit set has no OSD twice
abbrev pub is_set : List ℕ → Bool
is_set osds = is_distinct osds

-- a pair has two sides
abbrev pub are_pairs : List Pair → Bool
are_pairs pairs = list_all (λ p. not (p.from == p.to)) pairs

-- an exception says something, no more than the size of a pool, and that soundly
abbrev pub says_soundly : {E : Type 0} → (List E → Bool) → PoolFacts → Exception E → Bool
says_soundly sound p e = nat_lt 0 (length e.entries) && nat_le (length e.entries) p.size && sound e.entries

-- an exception says something soundly for the pool of its group
abbrev pub is_sound : {E : Type 0} → (List E → Bool) → List PoolFacts → Exception E → Bool
is_sound sound pools e = option_map_or (λ p. says_soundly sound p e) (entry_at (λ p. p.id) pools e.pg.pool) false

-- an exception of a group that is there, naming OSDs that exist, and soundly
abbrev pub is_exception : {E : Type 0} → (E → List ℕ) → (List E → Bool) → List PoolFacts → (ℕ → Bool) → Exception E →
    Bool
is_exception names sound pools exists e = has_group pools e.pg && all_named names exists e && is_sound sound pools e

-- ---- changes of exceptions

-- an exception stays unless its pool or its own group is taken away
abbrev pub stays : {E : Type 0} → List ℕ → List Pg → Exception E → Bool
stays old_pools gone e = not (has_key (λ id. id) old_pools e.pg.pool) && not (is_among gone e.pg)

-- the exceptions after some are taken away, and others put in
unfoldable pub exceptions_after : {E : Type 0} → List ℕ → List Pg → List (Exception E) → List (Exception E) →
    List (Exception E)
exceptions_after old_pools gone new es = fold (put key_of) (filter (stays old_pools gone) es) new
