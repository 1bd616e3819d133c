-- Rooms: where the groups of a large pool are placed side by side, a part of them in each room.
use Rattle.std.specs.Prelude.{◌≡◌, ℕ, ◌+◌, ◌-◌, ◌*◌, ◌^◌, min, List, map}
use Rattle.std.specs.List.{sum_by, range_with_len}
use Rattle.crush.specs.Run.{Ran}
use Rattle.grouptable.specs.Sets.{GroupSets}
use Rattle.maptypes.specs.Pools.{PoolFacts}
use Rattle.osdmap.specs.Maps.{ClusterMap}
use Rattle.osdmap.specs.Placement.{mapped_set}
use Rattle.pgtable.specs.Tables.{RunsMore}

-- ---- runs

-- how many runs all rooms have counted; the count stays at the greatest number
abbrev pub runs_of : List Ran → ℕ
runs_of rooms = min (sum_by (λ work. work.runs) rooms) (2 ^ 64 - 1)

-- a number of runs more are counted in all rooms
abbrev pub RunMore : ℕ → List Ran → List Ran → Type 0
RunMore n old new = runs_of new ≡ min (runs_of old + n) (2 ^ 64 - 1)

-- ---- the parts of a pool

-- the first group of the part of a room, where parts have so many groups and a pool has so many
abbrev pub start_of : ℕ → ℕ → ℕ → ℕ
start_of room size count = min (room * size) count

-- how many groups the part of a room has: none where the parts before it have all
abbrev pub len_of : ℕ → ℕ → ℕ → ℕ
len_of room size count = start_of (room + 1) size count - start_of room size count

-- the mapped sets of the groups of the part of a room
abbrev pub part_of : ClusterMap → PoolFacts → ℕ → ℕ → GroupSets
part_of m p room size = record {
  width = p.size;
  sets = map (mapped_set m p) (range_with_len (start_of room size p.pg_num) (len_of room size p.pg_num));
}

-- the mapped sets of the groups of the parts of so many rooms, side by side
abbrev pub parts_before : ClusterMap → PoolFacts → ℕ → ℕ → GroupSets
parts_before m p rooms size =
    record { width = p.size; sets = map (mapped_set m p) (range_with_len 0 (start_of rooms size p.pg_num)) }

-- what a room makes of its part: the mapped sets of its groups, by a run for each
pub record IsPart (m : ClusterMap) (p : PoolFacts) (room size : ℕ) (old new : Ran) (made : GroupSets) : Type 0 where
  pub sets : made ≡ part_of m p room size
  pub runs : RunsMore (len_of room size p.pg_num) old new
