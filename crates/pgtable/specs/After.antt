-- The map after a change, and the patch to its table, as the code that makes patches goes by them.
use Rattle.std.specs.Prelude.{◌≡◌, ℕ, Bool, List, Some, reverse}
use Rattle.std.specs.List.{filter}
use Rattle.crush.specs.Run.{Ran}
use Rattle.maptypes.specs.Pools.{PoolFacts}
use Rattle.osdmap.specs.Evals.{is_touched, evals_of}
use Rattle.osdmap.specs.Maps.{ClusterMap, pool_at}
use Rattle.pgtable.specs.declared.patch.Patch.{Patch}
use Rattle.pgtable.specs.declared.update.Update.{Update}
use Rattle.pgtable.specs.Patches.{changed_map, evals_in, LeadsTo}
use Rattle.pgtable.specs.Rooms.{RunMore}
use Rattle.pgtable.specs.Tables.{TableFacts}

-- the map after a change
abbrev pub map_after : Update → ClusterMap
map_after u = changed_map u.before.now.map u.change.now

-- the map after a change has a pool
abbrev pub HasPool : Update → PoolFacts → Type 0
HasPool u p = pool_at (map_after u).pools p.id ≡ Some p

-- whether a change touches a pool as a whole
abbrev pub is_touched_by : Update → PoolFacts → Bool
is_touched_by u p = is_touched (map_after u) u.change.now p

-- the pools of that map that a change touches as a whole, the last one first
abbrev pub touched_pools : Update → List PoolFacts
touched_pools u = reverse (filter (is_touched_by u) (map_after u).pools)

-- how many groups of a pool a change evaluates, and how many in all
abbrev pub pool_evals : Update → PoolFacts → ℕ
pool_evals u p = evals_in (map_after u) u.change.now p

-- how many groups a change evaluates in all
abbrev pub change_evals : Update → ℕ
change_evals u = evals_of (map_after u) u.change.now

-- a patch makes of a table the one of the map after a change, tells the evaluations of the change, and took a run for
-- each of them
pub record IsPatchBy (u : Update) (t : TableFacts) (old new : List Ran) (p : Patch) : Type 0 where
  pub leads : LeadsTo (map_after u) t p
  pub counted : p.evals ≡ change_evals u
  pub runs : RunMore p.evals old new
