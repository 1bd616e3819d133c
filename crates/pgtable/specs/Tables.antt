-- Tables: the mapped sets of all groups, and which OSDs are up.
use Rattle.std.specs.Prelude.{◌≡◌, ℕ, ◌+◌, ◌-◌, ◌^◌, ◌==◌, min, Bool, false, List, [], length, map, Option, Some, None, option_and_then, slice_get, slice_index_or, if◌then◌else◌}
use Rattle.std.specs.List.{find, flat_map, range_with_len}
use Rattle.std.specs.Option.{option_map, option_map_or}
use Rattle.crush.specs.Run.{Ran}
use Rattle.grouptable.specs.Sets.{groups_of}
use Rattle.maptypes.specs.Sets.{Places, kept_places}
use Rattle.maptypes.specs.declared.pg.Pg.{Pg}
use Rattle.maptypes.specs.Pools.{PoolFacts}
use Rattle.osdmap.specs.Maps.{ClusterMap, osd_is_up, HoldsTogether}
use Rattle.osdmap.specs.Placement.{group_of, mapped_set}
use Rattle.pgtable.specs.declared.pool_table.PoolTable.{PoolTable}

-- what callers see of a table: for each pool the sets of its groups by number, and for each OSD whether it is up
pub record TableFacts : Type 0 where
  pub pools : List PoolTable
  pub up : List Bool

-- the id of a table's pool
abbrev pub table_id : PoolTable → ℕ
table_id q = q.pool.id

-- ---- the table of a map

-- the mapped sets of all groups of a pool
abbrev pub sets_of : ClusterMap → PoolFacts → List Places
sets_of m p = map (mapped_set m p) (range_with_len 0 p.pg_num)

-- the table of a pool of a map: the mapped sets of its groups, which have as many places at most as the pool
abbrev pub pool_table : ClusterMap → PoolFacts → PoolTable
pool_table m p = record { pool = p; groups = record { width = p.size; sets = sets_of m p } }

-- the tables of all pools of a map
abbrev pub tables_of : ClusterMap → List PoolTable
tables_of m = map (pool_table m) m.pools

-- which OSDs are up, by number
abbrev pub ups_of : ClusterMap → List Bool
ups_of m = map (osd_is_up m) (range_with_len 0 (length m.presences))

-- the table of a map: for each of its pools the mapped sets of all groups, and which OSDs are up
pub record IsTableOf (t : TableFacts) (m : ClusterMap) : Type 0 where
  pub holds : HoldsTogether m
  pub pools : t.pools ≡ tables_of m
  pub up : t.up ≡ ups_of m

-- ---- what a table shows

-- the pool of an id
abbrev pub pool_in : TableFacts → ℕ → Option PoolTable
pool_in t id = find (λ q. q.pool.id == id) t.pools

-- an OSD that is up
abbrev pub upward_in : List Bool → ℕ → Option ℕ
upward_in up osd = if slice_index_or up osd false then Some osd else None

-- a set without the OSDs that are down, in the way of its pool's kind
abbrev pub shown_set : TableFacts → PoolTable → Places → Places
shown_set t q set = kept_places q.pool.kind (map (option_and_then (upward_in t.up)) set)

-- the set of a group that is there, as callers see it
abbrev pub shown_at : TableFacts → Pg → Option Places
shown_at t g = option_and_then (λ q. option_map (shown_set t q) (slice_get q.groups.sets g.number)) (pool_in t g.pool)

-- the groups of a pool in whose set an OSD stands
abbrev pub groups_on : ℕ → PoolTable → List Pg
groups_on osd q = map (group_of q.pool) (groups_of osd q.groups.sets)

-- the groups of all pools in whose set an OSD stands that is up
abbrev pub shown_groups : TableFacts → ℕ → List Pg
shown_groups t osd = if slice_index_or t.up osd false then flat_map (groups_on osd) t.pools else []

-- how many of these are groups of a pool
abbrev pub shown_in : TableFacts → ℕ → ℕ → ℕ
shown_in t pool osd =
    if slice_index_or t.up osd false then option_map_or (λ q. length (groups_on osd q)) (pool_in t pool) 0 else 0

-- ---- runs

-- a number of runs more are counted; the count stays at the greatest number
abbrev pub RunsMore : ℕ → Ran → Ran → Type 0
RunsMore n old new = new.runs ≡ min (old.runs + n) (2 ^ 64 - 1)
