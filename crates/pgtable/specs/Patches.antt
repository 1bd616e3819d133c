-- Patches: what they make of a table.
use Rattle.std.specs.Prelude.{◌≡◌, ◌≢◌, ℕ, ◌+◌, ◌<◌, ◌≤◌, Bool, true, false, List, [], length, map, Option, Some, None, slice_get, slice_set, IfSome}
use Rattle.std.specs.List.{zip, filter, fold, count_by, range_with_len}
use Rattle.osdmap.specs.Evals.{concerns, is_evaluated}
use Rattle.osdmap.specs.Placement.{group_of, mapped_set}
use Rattle.std.specs.Option.{option_map, option_map_or}
use Rattle.buckets.specs.Limits.{max_devices}
use Rattle.mapparts.specs.Limits.{max_pools}
use Rattle.grouptable.specs.Sets.{GroupSets, groups_after}
use Rattle.maptypes.specs.Sets.{Places}
use Rattle.grouptable.specs.Tables.{IsPatchFor}
use Rattle.grouptable.specs.declared.table.GroupPatch.{GroupPatch}
use Rattle.maptypes.specs.declared.change.ChangeParts.{ChangeParts}
use Rattle.maptypes.specs.Named.{leaves_raw_sets}
use Rattle.maptypes.specs.Pools.{PoolFacts}
use Rattle.osdmap.specs.Maps.{ClusterMap, HoldsTogether}
use Rattle.osdmap.specs.Changes.{change_fault, apply}
use Rattle.pgtable.specs.declared.pool_table.PoolTable.{PoolTable}
use Rattle.pgtable.specs.declared.patch.KeptTable.{KeptTable}
use Rattle.pgtable.specs.declared.patch.NewTables.{NewTables}
use Rattle.pgtable.specs.declared.patch.TablePatch.{TablePatch}
use Rattle.pgtable.specs.declared.patch.TablePatch.TheVariants.{Groups, Pools}
use Rattle.pgtable.specs.declared.patch.Patch.{Patch}
use Rattle.pgtable.specs.PoolPatches.{patches_by}
use Rattle.pgtable.specs.declared.group_patches.GroupPatches.{GroupPatches}
use Rattle.keylist.specs.Order.{IsRising}
use Rattle.pgtable.specs.Tables.{TableFacts, table_id, pool_table, tables_of, IsTableOf}

-- the map after a change, one epoch on
abbrev pub changed_map : ClusterMap → ChangeParts → ClusterMap
changed_map m c = apply m (record { epoch = m.epoch + 1; change = c })

-- a change that nothing refuses leads from one map to another
pub record LeadsFrom (m : ClusterMap) (c : ChangeParts) (after : ClusterMap) : Type 0 where
  pub lawful : change_fault m c ≡ None
  pub is : after ≡ changed_map m c
  pub holds : HoldsTogether m
  pub holds_after : HoldsTogether after

-- the source of the sets after a change: the map after it, or the one before it where the change leaves all raw
-- sets
pub record IsSource (m : ClusterMap) (c : ChangeParts) (source : ClusterMap) (is_after : Bool) : Type 0 where
  pub after : is_after ≡ true → source ≡ changed_map m c
  pub before : is_after ≡ false → source ≡ m
  pub leaves : is_after ≡ false → leaves_raw_sets c ≡ true

-- some OSDs go up or down
abbrev pub with_ups : Bool → List Bool → List ℕ → List Bool
with_ups up ups osds = fold (λ us osd. slice_set us osd up) ups osds

-- which OSDs are up after a change
abbrev pub ups_after : List Bool → ChangeParts → List Bool
ups_after ups c = with_ups true (with_ups false ups c.osds.down) c.osds.up

-- the groups of a pool whose exceptions a change concerns
abbrev pub concerned_numbers : ClusterMap → ChangeParts → PoolFacts → List ℕ
concerned_numbers m c p = filter (λ n. concerns m c (group_of p n)) (range_with_len 0 p.pg_num)

-- groups with their mapped sets
abbrev pub with_sets : ClusterMap → PoolFacts → List ℕ → List (ℕ × Places)
with_sets m p numbers = map (λ n. (n, mapped_set m p n)) numbers

-- the groups of a pool whose exceptions a change concerns, with their mapped sets
abbrev pub changes_of : ClusterMap → ChangeParts → PoolFacts → List (ℕ × Places)
changes_of m c p = with_sets m p (concerned_numbers m c p)

-- how many groups of a pool a change evaluates
abbrev pub evals_in : ClusterMap → ChangeParts → PoolFacts → ℕ
evals_in m c p = count_by (is_evaluated m c p) (range_with_len 0 p.pg_num)

-- the sets of the pool that stands at a position
abbrev pub groups_at : List PoolTable → ℕ → GroupSets
groups_at old at = option_map_or (λ q. q.groups) (slice_get old at) (record { width = 0; sets = [] })

-- the sets of a pool with other sets for some groups, if any
abbrev pub with_group_patch : GroupSets → Option GroupPatch → GroupSets
with_group_patch groups None = groups
with_group_patch groups (Some patch) = groups_after groups patch.changes.items

-- a pool's table that stays in place, with other sets for some groups, if any
abbrev pub with_patch : PoolTable → Option GroupPatch → PoolTable
with_patch q patch = record { pool = q.pool; groups = with_group_patch q.groups patch }

-- a pool's table as a patch makes it: anew, or with the sets of an old one and other sets for some groups
abbrev pub with_kept : List PoolTable → PoolTable → Option KeptTable → PoolTable
with_kept old q None = q
with_kept old q (Some k) = record { pool = q.pool; groups = with_group_patch (groups_at old k.at) k.patch }

-- some groups of a pool get other sets, if any, by which all have those of a map
pub record LeadGroups (m : ClusterMap) (p : PoolFacts) (groups : GroupSets) (patch : Option GroupPatch) : Type 0 where
  pub fits : IfSome patch (IsPatchFor groups)
  pub sets : with_group_patch groups patch ≡ (pool_table m p).groups

-- each pool's table that gets other sets gets them for groups that it has
pub record FitGroups (old : List PoolTable) (patches : List (Option GroupPatch)) : Type 0 where
  pub same : length patches ≡ length old
  pub each : (i : ℕ) (q : PoolTable) (g : GroupPatch) → slice_get old i ≡ Some q → slice_get patches i ≡ Some (Some g) →
      IsPatchFor q.groups g

-- the other sets of groups of pools, by position
abbrev pub patches_of : GroupPatches → List (Option GroupPatch)
patches_of patches = patches_by patches.some.items patches.count

-- what is kept is there, and gets other sets for groups that it has
pub record FitsAt (old : List PoolTable) (k : KeptTable) : Type 0 where
  pub inside : k.at < length old
  pub patch : IfSome k.patch (IsPatchFor (groups_at old k.at))

-- each table that is kept fits, and none is kept twice
pub record FitAll (old pools : List PoolTable) (kept : List (Option KeptTable)) : Type 0 where
  pub same : length kept ≡ length pools
  pub each : (i : ℕ) (k : KeptTable) → slice_get kept i ≡ Some (Some k) → FitsAt old k
  pub apart : (i j : ℕ) (a b : KeptTable) → i < j → slice_get kept i ≡ Some (Some a) →
      slice_get kept j ≡ Some (Some b) → a.at ≢ b.at

-- what is kept of a pool's table gets the sets of a map
pub record KeepsPool (old : List PoolTable) (m : ClusterMap) (p : PoolFacts) (k : KeptTable) : Type 0 where
  pub fits : FitsAt old k
  pub id : option_map (λ q. q.pool.id) (slice_get old k.at) ≡ Some p.id
  pub sets : with_group_patch (groups_at old k.at) k.patch ≡ (pool_table m p).groups

-- a pool's table as it is made, with what is kept, gets the sets of a map
pub record MakesPool (old : List PoolTable) (m : ClusterMap) (p : PoolFacts) (q : PoolTable) (one : Option KeptTable) :
    Type 0 where
  pub table : with_kept old q one ≡ pool_table m p
  pub kept : (k : KeptTable) → one ≡ Some k → KeepsPool old m p k

-- the tables as they are made, with what is kept, are those of a map
pub record MakesAll (old : List PoolTable) (m : ClusterMap) (pools : List PoolTable) (kept : List (Option KeptTable)) :
    Type 0 where
  pub long : length pools ≡ length m.pools
  pub fits : FitAll old pools kept
  pub tables : map (λ e. with_kept old e.0 e.1) (zip pools kept) ≡ tables_of m

-- the new tables of a patch fit those of a table
pub record FitPools (t : TableFacts) (b : NewTables) : Type 0 where
  pub pools : FitAll t.pools b.pools.items b.kept.items
  pub few_pools : length b.pools.items ≤ max_pools

-- a patch of the tables of pools fits a table
abbrev pub FitsTables : TableFacts → TablePatch → Type 0
FitsTables t (Groups patches) = FitGroups t.pools (patches_of patches)
FitsTables t (Pools b) = FitPools t b

-- the tables of pools after a patch: the old ones with other sets for some groups; or the new ones, with what
-- they keep of the old ones
abbrev pub pools_after_patch : List PoolTable → TablePatch → List PoolTable
pools_after_patch old (Groups patches) = map (λ e. with_patch e.0 e.1) (zip old (patches_of patches))
pools_after_patch old (Pools b) = map (λ e. with_kept old e.0 e.1) (zip b.pools.items b.kept.items)

-- a patch fits a table: afterwards too each pool's id is above those before it
pub record Fits (t : TableFacts) (p : Patch) : Type 0 where
  pub pools : FitsTables t p.tables
  pub rise : IsRising table_id (pools_after_patch t.pools p.tables)
  pub few_osds : length p.up.items ≤ max_devices

-- a patch makes of the tables of pools those of a map
pub record LeadTables (m : ClusterMap) (t : TableFacts) (b : TablePatch) : Type 0 where
  pub fits : FitsTables t b
  pub tables : pools_after_patch t.pools b ≡ tables_of m

-- the table after a patch
abbrev pub after_patch : TableFacts → Patch → TableFacts
after_patch t p = record { pools = pools_after_patch t.pools p.tables; up = p.up.items }

-- a patch makes of a table that of a map
pub record LeadsTo (m : ClusterMap) (t : TableFacts) (p : Patch) : Type 0 where
  pub fits : Fits t p
  pub table : IsTableOf (after_patch t p) m
