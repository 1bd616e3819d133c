-- What a plan is made with: the pool's groups and the deviations of all OSDs after the moves so far, as they are
-- stored.
use Rattle.std.specs.Prelude.{◌≡◌, ℕ, ◌+◌, ◌*◌, ◌<◌, ◌≤◌, ◌==◌, Bool, true, false, not, ◌&&◌, nat_lt, ℤ, pos, int_lt, List, [], ◌∷◌, ◌++◌, length, map, Option, Some, None, IfSome, AllPairs, slice_index_or, slice_set}
use Rattle.std.specs.List.{range_with_len, list_any, count_by, All}
use Rattle.std.specs.List.Sorted.{IsPermutation}
use Rattle.std.specs.Option.{option_map_or}
use Rattle.maptypes.specs.declared.pg.Pg.{Pg}
use Rattle.keylist.specs.Keys.{entry_at}
use Rattle.maptypes.specs.Exceptions.{pg_key, key_of, said_of}
use Rattle.maptypes.specs.Pools.{PoolFacts}
use Rattle.osdmap.specs.Maps.{ClusterMap, HoldsTogether}
use Rattle.osdmap.specs.Mapped.{is_weightless}
use Rattle.maptypes.specs.Sets.{replace, is_of, stands}
use Rattle.osdmap.specs.Placement.{group_of, steps_of, mapped_set}
use Rattle.balancer.specs.declared.moves.Move.{Move}
use Rattle.balancer.specs.declared.group.Group.{Group}
use Rattle.balancer.specs.Shares.{osds_of, is_candidate, deviation, unevenness, Aim, least_gain, least_gap}
use Rattle.balancer.specs.Moves.{move_of, pair_of_move, pairs_in, last_level, levels_of, has_way}
use Rattle.balancer.specs.Greedy.{gap, is_good, beats, best_move, after_moves}
use Rattle.balancer.specs.Plans.{is_moved, items_at}

-- whether an OSD of the explicit set of a group is out, so that pairs do nothing
unfoldable pub is_fixed : ClusterMap → Pg → Bool
is_fixed m g = option_map_or (λ osds. list_any (is_weightless m.weights) osds) (said_of m.explicit g) false

-- what is kept of a group
unfoldable pub group_at : ClusterMap → PoolFacts → ℕ → Group
group_at m p n = record {
  places = mapped_set m p n;
  pairs = pairs_in m (group_of p n);
  is_fixed = is_fixed m (group_of p n);
}

-- what is kept of the groups of a pool, by number
abbrev pub board_groups : ClusterMap → PoolFacts → List Group
board_groups m p = map (group_at m p) (range_with_len 0 p.pg_num)

-- the deviations of all OSDs, by number
abbrev pub deviations_of : ClusterMap → PoolFacts → Aim → List ℤ
deviations_of m p aim = map (deviation m p aim) (osds_of m)

-- what is kept of each group of a pool, and the deviation of each OSD
pub record IsBoardOf (m : ClusterMap) (p : PoolFacts) (aim : Aim) (gs : List Group) (ds : List ℤ) : Type 0 where
  pub groups : gs ≡ board_groups m p
  pub deviations : ds ≡ deviations_of m p aim

-- what is kept of a group after a move of it
abbrev pub group_after : Group → Move → Group
group_after g v = record g { places = replace (pair_of_move v) g.places; pairs = g.pairs ++ pair_of_move v ∷ [] }

-- some groups after a move of one of them
abbrev pub AreAfterMove : List Group → Move → List Group → Type 0
AreAfterMove before v after =
    (g : Group) × (v.group < length before) × (g ≡ slice_index_or before v.group g)
    × (after ≡ slice_set before v.group (group_after g v))

-- whether a group may go from one OSD to another, where both are candidates and beside one another
unfoldable pub may_go : ClusterMap → PoolFacts → ℕ → ℕ → Group → Bool
may_go m p from to g =
    not g.is_fixed && (count_by (is_of from) g.places == 1) && not (stands to g.places)
    && nat_lt (length g.pairs) p.size
    && has_way m (last_level (levels_of (steps_of m p))) from to g.places

-- whether some move between two OSDs could be taken rather than the best one so far
abbrev pub is_wanted : ClusterMap → PoolFacts → Aim → ℕ → ℕ → Option Move → Bool
is_wanted m p aim from to None = int_lt (pos (least_gap m p aim)) (gap m p aim from to)
is_wanted m p aim from to (Some best) =
    int_lt (pos (least_gap m p aim)) (gap m p aim from to) && beats m p aim (move_of from to 0) best

-- a good move of a group that is there
pub record IsGood (m : ClusterMap) (p : PoolFacts) (aim : Aim) (v : Move) : Type 0 where
  pub good : is_good m p aim v ≡ true
  pub there : v.group < p.pg_num

-- the best move
pub record IsBest (m : ClusterMap) (p : PoolFacts) (aim : Aim) (v : Move) : Type 0 where
  pub good : IsGood m p aim v
  pub best : best_move m p aim ≡ Some v

-- a good move is not better than the best one so far, which is there
abbrev pub IsCovered : ClusterMap → PoolFacts → Aim → Option Move → Move → Type 0
IsCovered m p aim None v = is_good m p aim v ≡ false
IsCovered m p aim (Some best) v = is_good m p aim v ≡ true → beats m p aim v best ≡ false

-- the map after some moves, each of a group that is there, holds together, each group moved has its pairs there as an
-- exception, and each move made the pool more even
pub record IsReached (m : ClusterMap) (p : PoolFacts) (aim : Aim) (moves : List Move) : Type 0 where
  pub holds : HoldsTogether (after_moves m p moves)
  pub there : All (λ v. v.group < p.pg_num) moves
  pub named : (n : ℕ) → is_moved moves n ≡ true →
      entry_at key_of (after_moves m p moves).items (pg_key (group_of p n))
      ≡ Some (items_at (after_moves m p moves) p n)
  pub evens :
      unevenness (after_moves m p moves) p aim + least_gain m p aim * length moves ≤ unevenness m p aim

-- ---- the search for the best move

-- the best move so far, or none, is good and covers what the one before it covered
pub record IsBetter (m : ClusterMap) (p : PoolFacts) (aim : Aim) (old new : Option Move) : Type 0 where
  pub good : IfSome new (λ v. IsGood m p aim v)
  pub keeps : (v : Move) → IsCovered m p aim old v → IsCovered m p aim new v

-- the best move so far covers those between two OSDs
pub record CoversPair (m : ClusterMap) (p : PoolFacts) (aim : Aim) (best : Option Move) (from to : ℕ) :
    Type 0 where
  pub each : (g : ℕ) → g < p.pg_num → IsCovered m p aim best (move_of from to g)

-- some OSDs with their deviations, each of them once, the emptiest first: a move would rather go to none that stands
-- later, whatever OSD it goes from
pub record IsOrder (m n : ClusterMap) (p : PoolFacts) (aim : Aim) (osds : List ℕ) (order : List (ℤ × ℕ)) :
    Type 0 where
  pub same : IsPermutation (map (λ e. e.1) order) osds
  pub rising : AllPairs (λ a b. (from : ℕ) → beats n p aim (move_of from b.1 0) (move_of from a.1 0) ≡ false) order
  pub candidates : All (λ e. is_candidate m p e.1 ≡ true) order

-- the best move so far covers those from an OSD to some
abbrev pub CoversFrom : ClusterMap → PoolFacts → Aim → Option Move → ℕ → List ℕ → Type 0
CoversFrom m p aim best from tos = All (λ to. CoversPair m p aim best from to) tos

-- the best move so far covers those from some OSDs to some
abbrev pub CoversAll : ClusterMap → PoolFacts → Aim → Option Move → List ℕ → List ℕ → Type 0
CoversAll m p aim best froms tos = All (λ from. CoversFrom m p aim best from tos) froms
