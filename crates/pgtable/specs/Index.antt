-- What a map says of its groups and OSDs: each group's up set, and for each OSD the groups in whose up set it stands.
use Rattle.std.specs.Prelude.{ℕ, ◌==◌, Bool, false, List, length, map, nat_lt, Option, Some, None, option_and_then, if◌then◌else◌}
use Rattle.std.specs.List.{filter, flat_map, range_with_len}
use Rattle.std.specs.Option.{option_map_or}
use Rattle.maptypes.specs.declared.pg.Pg.{Pg}
use Rattle.maptypes.specs.Pools.{PoolFacts}
use Rattle.osdmap.specs.Maps.{ClusterMap, pool_at}
use Rattle.osdmap.specs.Placement.{group_of, up_set}
use Rattle.maptypes.specs.Sets.{stands}

-- the up set of a group, where it is there
abbrev pub up_at : ClusterMap → Pg → Option (List (Option ℕ))
up_at m g =
    option_and_then (λ p. if nat_lt g.number p.pg_num then Some (up_set m p g.number) else None)
    (pool_at m.pools g.pool)

-- the groups of a pool, by number
abbrev pub groups_in : PoolFacts → List Pg
groups_in p = map (group_of p) (range_with_len 0 p.pg_num)

-- all groups, by pool, then number
abbrev pub all_groups : ClusterMap → List Pg
all_groups m = flat_map groups_in m.pools

-- whether an OSD stands in the up set of a group
abbrev pub stands_in : ClusterMap → ℕ → Pg → Bool
stands_in m osd g = option_map_or (λ p. stands osd (up_set m p g.number)) (pool_at m.pools g.pool) false

-- the groups in whose up set an OSD stands, by pool, then number; each once, however often the OSD stands in it
abbrev pub index_of : ClusterMap → ℕ → List Pg
index_of m osd = filter (stands_in m osd) (all_groups m)

-- how many these are
abbrev pub count_of : ClusterMap → ℕ → ℕ
count_of m osd = length (index_of m osd)

-- how many of these are groups of a pool
abbrev pub count_in : ClusterMap → ℕ → ℕ → ℕ
count_in m pool osd = length (filter (λ g. g.pool == pool) (index_of m osd))
