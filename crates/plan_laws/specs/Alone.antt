-- The greedy plan of a pool by itself, where OSDs carry nothing and one group decides: in whole groups.
use Rattle.std.specs.Prelude.{◌≡◌, ℕ, zero, suc, Bool, not, ◌&&◌, ◌||◌, ℤ, pos, ◌-ℤ◌, int_lt, List, [], ◌∷◌, Option}
use Rattle.std.specs.List.{filter, find, list_all}
use Rattle.std.specs.Option.{option_map_or}
use Rattle.std.specs.Ordering.{int_eq}
use Rattle.maptypes.specs.Pools.{PoolFacts}
use Rattle.osdmap.specs.Maps.{ClusterMap}
use Rattle.balancer.specs.declared.moves.Move.{Move}
use Rattle.balancer.specs.Shares.{total_weight, above_share, Aim, aim_of}
use Rattle.balancer.specs.Moves.{after_move, is_allowed}
use Rattle.balancer.specs.Greedy.{all_moves, precedes, greedy}

-- the aim of a pool by itself
abbrev pub alone : Aim
alone = aim_of [] 256

-- by how much more one OSD is above its share than another
abbrev pub gap_alone : ClusterMap → PoolFacts → ℕ → ℕ → ℤ
gap_alone m p from to = above_share m p from -ℤ above_share m p to

-- whether a move is allowed, and the difference is above one group
unfoldable pub is_good_alone : ClusterMap → PoolFacts → Move → Bool
is_good_alone m p v = is_allowed m p v && int_lt (pos (total_weight m p)) (gap_alone m p v.from v.to)

-- whether a move is taken rather than another: its difference is greater, or as great and it comes first
unfoldable pub beats_alone : ClusterMap → PoolFacts → Move → Move → Bool
beats_alone m p u v =
    int_lt (gap_alone m p v.from v.to) (gap_alone m p u.from u.to)
    || (int_eq (gap_alone m p u.from u.to) (gap_alone m p v.from v.to) && precedes u v)

-- the good move that no good move beats, where some move is good
unfoldable pub best_alone : ClusterMap → PoolFacts → Option Move
best_alone m p =
    find (λ v. list_all (λ u. not (beats_alone m p u v)) (filter (is_good_alone m p) (all_moves m p)))
    (filter (is_good_alone m p) (all_moves m p))

-- the plan of at most so many moves: the best one, and then the plan of the map after it
unfoldable pub greedy_alone : ClusterMap → PoolFacts → ℕ → List Move
greedy_alone m p zero = []
greedy_alone m p (suc n) = option_map_or (λ v. v ∷ greedy_alone (after_move m p v) p n) (best_alone m p) []

-- where OSDs carry nothing and need be no more than one group apart, the plan is that
abbrev pub AloneInGroups : Type 0
AloneInGroups = (m : ClusterMap) (p : PoolFacts) (n : ℕ) → greedy m p alone n ≡ greedy_alone m p n
