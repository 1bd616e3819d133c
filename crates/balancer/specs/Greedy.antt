-- The greedy plan: as long as a move makes the pool more even, the one from the fullest OSD to the emptiest.
use Rattle.std.specs.Prelude.{ℕ, zero, suc, ◌==◌, Bool, not, ◌&&◌, ◌||◌, nat_lt, ℤ, pos, ◌-ℤ◌, int_lt, List, [], ◌∷◌, map, Option}
use Rattle.std.specs.List.{filter, find, flat_map, fold, list_all, range_with_len}
use Rattle.std.specs.Option.{option_map_or}
use Rattle.std.specs.Ordering.{int_eq}
use Rattle.maptypes.specs.Pools.{PoolFacts}
use Rattle.osdmap.specs.Maps.{ClusterMap}
use Rattle.balancer.specs.declared.moves.Move.{Move}
use Rattle.balancer.specs.Shares.{osds_of, deviation, Aim, least_gap}
use Rattle.balancer.specs.Moves.{move_of, after_move, is_allowed}

-- ---- good moves

-- the difference of the deviations of two OSDs
abbrev pub gap : ClusterMap → PoolFacts → Aim → ℕ → ℕ → ℤ
gap m p aim from to = deviation m p aim from -ℤ deviation m p aim to

-- whether a move is good: it is allowed, and the difference is above the least one of the aim
unfoldable pub is_good : ClusterMap → PoolFacts → Aim → Move → Bool
is_good m p aim v = is_allowed m p v && int_lt (pos (least_gap m p aim)) (gap m p aim v.from v.to)

-- the moves of any group between any two OSDs
abbrev pub all_moves : ClusterMap → PoolFacts → List Move
all_moves m p =
    flat_map (λ from. flat_map (λ to. map (move_of from to) (range_with_len 0 p.pg_num)) (osds_of m)) (osds_of m)

-- the good ones
abbrev pub good_moves : ClusterMap → PoolFacts → Aim → List Move
good_moves m p aim = filter (is_good m p aim) (all_moves m p)

-- ---- the best of them

-- whether a move comes first of two: it goes from the lower OSD, else to the lower one, else is of the lower group
abbrev pub precedes : Move → Move → Bool
precedes u v =
    nat_lt u.from v.from
    || ((u.from == v.from) && (nat_lt u.to v.to || ((u.to == v.to) && nat_lt u.group v.group)))

-- whether a move is taken rather than another: its difference is greater, or as great and it comes first
unfoldable pub beats : ClusterMap → PoolFacts → Aim → Move → Move → Bool
beats m p aim u v =
    int_lt (gap m p aim v.from v.to) (gap m p aim u.from u.to)
    || (int_eq (gap m p aim u.from u.to) (gap m p aim v.from v.to) && precedes u v)

-- the good move that no good move beats, where some move is good
unfoldable pub best_move : ClusterMap → PoolFacts → Aim → Option Move
best_move m p aim =
    find (λ v. list_all (λ u. not (beats m p aim u v)) (good_moves m p aim)) (good_moves m p aim)

-- ---- one after another

-- the plan of at most so many moves: the best one, and then the plan of the map after it
unfoldable pub greedy : ClusterMap → PoolFacts → Aim → ℕ → List Move
greedy m p aim zero = []
greedy m p aim (suc n) = option_map_or (λ v. v ∷ greedy (after_move m p v) p aim n) (best_move m p aim) []

-- the map after some moves
abbrev pub after_moves : ClusterMap → PoolFacts → List Move → ClusterMap
after_moves m p moves = fold (λ n v. after_move n p v) m moves
