-- Stretches: where pools are placed side by side, one behind another, whole pools in each room.
use Rattle.std.specs.Prelude.{◌≡◌, ℕ, zero, suc, ◌+◌, ◌-◌, ◌*◌, ◌^◌, min, List, [], ◌∷◌, map, Some}
use Rattle.std.specs.List.{All, between}
use Rattle.crush.specs.Run.{Ran}
use Rattle.maptypes.specs.Pools.{PoolFacts, total_groups}
use Rattle.osdmap.specs.Maps.{ClusterMap, pool_at}
use Rattle.pgtable.specs.declared.pool_table.PoolTable.{PoolTable}
use Rattle.pgtable.specs.Tables.{RunsMore, pool_table}

-- a map has all these pools
abbrev pub HasPools : ClusterMap → List PoolFacts → Type 0
HasPools m pools = All (λ p. pool_at m.pools p.id ≡ Some p) pools

-- the tables of some pools of a map
abbrev pub tables_for : ClusterMap → List PoolFacts → List PoolTable
tables_for m pools = map (pool_table m) pools

-- how many pools begin before a group, where the groups of all are counted pool by pool
abbrev pub begun_before : ℕ → List PoolFacts → ℕ
begun_before zero pools = 0
begun_before (suc n) [] = 0
begun_before (suc n) (p ∷ ps) = suc (begun_before (suc n - p.pg_num) ps)

-- the first pool of the stretch of a room, where stretches have so many groups, up to the end of a pool
abbrev pub first_of : ℕ → ℕ → List PoolFacts → ℕ
first_of room size pools = begun_before (min (room * size) (2 ^ 64 - 1)) pools

-- the pools of the stretch of a room
abbrev pub stretch_of : ℕ → ℕ → List PoolFacts → List PoolFacts
stretch_of room size pools = between (first_of room size pools) (first_of (room + 1) size pools) pools

-- what a room makes of its stretch: the tables of its pools, by a run for each of their groups
pub record IsStretch (m : ClusterMap) (stretch : List PoolFacts) (old new : Ran) (made : List PoolTable) : Type 0 where
  pub tables : made ≡ tables_for m stretch
  pub runs : RunsMore (total_groups stretch) old new
