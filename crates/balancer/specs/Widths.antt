-- How far moves from an OSD go at most, as far as it is known: by how much the deviations of the two OSDs of a good
-- move differ, for each OSD that a group would leave, by number.
use Rattle.std.specs.Prelude.{◌≡◌, ℕ, ◌<◌, true, false, ℤ, pos, int_lt, List, Option, Some, None, slice_index_or}
use Rattle.maptypes.specs.Pools.{PoolFacts}
use Rattle.osdmap.specs.Maps.{ClusterMap}
use Rattle.balancer.specs.declared.moves.Move.{Move}
use Rattle.balancer.specs.Shares.{Aim, least_gap}
use Rattle.balancer.specs.Moves.{move_of}
use Rattle.balancer.specs.Greedy.{gap, is_good}

-- what is known of an OSD
abbrev pub bound_of : List (Option ℤ) → ℕ → Option ℤ
bound_of bounds from = slice_index_or bounds from None

-- no good move from an OSD goes further
abbrev pub IsBound : ClusterMap → PoolFacts → Aim → ℕ → ℤ → Type 0
IsBound m p aim from bound =
    (to group : ℕ) → group < p.pg_num → is_good m p aim (move_of from to group) ≡ true
    → int_lt bound (gap m p aim from to) ≡ false

-- what is known is so
abbrev pub AreBounds : ClusterMap → PoolFacts → Aim → List (Option ℤ) → Type 0
AreBounds m p aim bounds =
    (from : ℕ) (bound : ℤ) → bound_of bounds from ≡ Some bound → IsBound m p aim from bound

-- how far the best move so far goes; where there is none, how far a move may go that is not good
abbrev pub best_gap : ClusterMap → PoolFacts → Aim → Option Move → ℤ
best_gap m p aim None = pos (least_gap m p aim)
best_gap m p aim (Some v) = gap m p aim v.from v.to
