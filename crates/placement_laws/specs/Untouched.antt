-- Groups that a change leaves where they are.
use Rattle.std.specs.Prelude.{◌≡◌, ◌<◌, ℕ, false, Some, None}
use Rattle.maptypes.specs.Incrementals.{Step}
use Rattle.maptypes.specs.Pools.{PoolFacts}
use Rattle.osdmap.specs.Maps.{ClusterMap, pool_at, HoldsTogether}
use Rattle.osdmap.specs.Changes.{change_fault, apply}
use Rattle.osdmap.specs.Evals.{is_evaluated}
use Rattle.osdmap.specs.Placement.{mapped_set}

-- group n of a pool was there in a map, with the mapped set that it has in another
pub record WasThere (m other : ClusterMap) (p : PoolFacts) (n : ℕ) : Type 0 where
  pub pool : pool_at m.pools p.id ≡ Some p
  pub mapped : mapped_set m p n ≡ mapped_set other p n

-- each group of the map after a change that is not among the evaluations of the change was there before it, with the
-- mapped set that it has
abbrev pub OthersStay : Type 0
OthersStay =
    (m : ClusterMap) (step : Step) (p : PoolFacts) (n : ℕ) → HoldsTogether m → change_fault m step.change ≡ None →
    pool_at (apply m step).pools p.id ≡ Some p → n < p.pg_num →
    is_evaluated (apply m step) step.change p n ≡ false → WasThere m (apply m step) p n
