-- What a plan aims at where OSDs carry something: it is the greedy plan toward shares that are fixed before its first
-- move, each the share by weight less what the OSD carries.
use Rattle.std.specs.Prelude.{◌≡◌, ℕ, zero, suc, ◌+◌, ◌*◌, Bool, not, ◌&&◌, ◌||◌, ℤ, pos, ◌-ℤ◌, ◌*ℤ◌, int_lt, List, [], ◌∷◌, Option, Some}
use Rattle.std.specs.List.{filter, find, list_all}
use Rattle.std.specs.Option.{option_map_or}
use Rattle.std.specs.Ordering.{int_eq}
use Rattle.maptypes.specs.Pools.{PoolFacts}
use Rattle.osdmap.specs.Maps.{ClusterMap, pool_at, HoldsTogether}
use Rattle.pgtable.specs.Index.{count_in}
use Rattle.balancer.specs.declared.moves.Move.{Move}
use Rattle.balancer.specs.Shares.{weight_in_map, total_weight, places, group_weight, Aim, carried_by}
use Rattle.balancer.specs.Moves.{after_move, is_allowed}
use Rattle.balancer.specs.Greedy.{all_moves, precedes, greedy}

-- ---- shares

-- the share that a plan aims at for an OSD: of the places by weight, less what the OSD carries, both in 256ths of a
-- group and times the weight of all candidates
unfoldable pub aimed_at : ClusterMap → PoolFacts → Aim → ℕ → ℤ
aimed_at m p aim osd =
    pos (256 * (places m p * weight_in_map m osd)) -ℤ carried_by aim.carried osd *ℤ pos (total_weight m p)

-- how far the groups of an OSD are above a share that is given for it
unfoldable pub above : (ℕ → ℤ) → ClusterMap → PoolFacts → ℕ → ℤ
above shares m p osd = pos (count_in m p.id osd * group_weight m p) -ℤ shares osd

-- ---- the plan

-- by how much more one OSD is above its share than another
abbrev pub gap_toward : (ℕ → ℤ) → ClusterMap → PoolFacts → ℕ → ℕ → ℤ
gap_toward shares m p from to = above shares m p from -ℤ above shares m p to

-- whether a move is allowed, and the difference is above so many 256ths of a group
unfoldable pub is_good_toward : (ℕ → ℤ) → ℕ → ClusterMap → PoolFacts → Move → Bool
is_good_toward shares apart m p v =
    is_allowed m p v && int_lt (pos (apart * total_weight m p + 255)) (gap_toward shares m p v.from v.to)

-- whether a move is taken rather than another: its difference is greater, or as great and it comes first
unfoldable pub beats_toward : (ℕ → ℤ) → ClusterMap → PoolFacts → Move → Move → Bool
beats_toward shares m p u v =
    int_lt (gap_toward shares m p v.from v.to) (gap_toward shares m p u.from u.to)
    || (int_eq (gap_toward shares m p u.from u.to) (gap_toward shares m p v.from v.to) && precedes u v)

-- the good move that no good move beats, where some move is good
unfoldable pub best_toward : (ℕ → ℤ) → ℕ → ClusterMap → PoolFacts → Option Move
best_toward shares apart m p =
    find
    (λ v. list_all (λ u. not (beats_toward shares m p u v)) (filter (is_good_toward shares apart m p) (all_moves m p)))
    (filter (is_good_toward shares apart m p) (all_moves m p))

-- the plan of at most so many moves toward the same shares: the best one, and then the plan of the map after it
unfoldable pub greedy_toward : (ℕ → ℤ) → ℕ → ClusterMap → PoolFacts → ℕ → List Move
greedy_toward shares apart m p zero = []
greedy_toward shares apart m p (suc n) =
    option_map_or (λ v. v ∷ greedy_toward shares apart (after_move m p v) p n) (best_toward shares apart m p) []

-- the plan of a pool that is there is the one toward the shares that it aims at on the map before its first move
abbrev pub TowardShares : Type 0
TowardShares =
    (m : ClusterMap) (p : PoolFacts) (aim : Aim) (n : ℕ) → HoldsTogether m → pool_at m.pools p.id ≡ Some p
    → greedy m p aim n ≡ greedy_toward (aimed_at m p aim) aim.apart m p n
