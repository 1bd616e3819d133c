-- Shares: where groups of a pool that a change names are placed side by side, some of them in each room.
use Rattle.std.specs.Prelude.{◌≡◌, ℕ, ◌+◌, List, length}
use Rattle.std.specs.List.{between}
use Rattle.crush.specs.Run.{Ran}
use Rattle.maptypes.specs.Sets.{Places}
use Rattle.maptypes.specs.Pools.{PoolFacts}
use Rattle.osdmap.specs.Maps.{ClusterMap}
use Rattle.pgtable.specs.Patches.{with_sets}
use Rattle.pgtable.specs.Rooms.{start_of}
use Rattle.pgtable.specs.Tables.{RunsMore}

-- the groups of the share of a room, where shares have so many
abbrev pub share_of : ℕ → ℕ → List ℕ → List ℕ
share_of room size numbers =
    between (start_of room size (length numbers)) (start_of (room + 1) size (length numbers)) numbers

-- what a room makes of its share: its groups with their mapped sets, by a run for each
pub record IsShare (m : ClusterMap) (p : PoolFacts) (share : List ℕ) (old new : Ran) (made : List (ℕ × Places))
    : Type 0 where
  pub sets : made ≡ with_sets m p share
  pub runs : RunsMore (length share) old new
