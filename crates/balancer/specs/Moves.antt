-- Moves of a group from one OSD to another, by one more pair among its exceptions; and which of them are allowed.
use Rattle.std.specs.Prelude.{ℕ, ◌-◌, ◌==◌, Bool, true, false, not, ◌&&◌, nat_lt, ℤ, pos, List, [], ◌∷◌, ◌++◌, length, map, take, Option, Some, None, is_some, unwrap_or, slice_index, if◌then◌else◌}
use Rattle.std.specs.List.{filter_map, list_all, list_any, count_by}
use Rattle.std.specs.Option.{option_eq, option_map_or}
use Rattle.std.specs.Ordering.{int_eq}
use Rattle.crush.specs.declared.step.Step.{Step}
use Rattle.crush.specs.declared.step.Step.TheVariants as step
use Rattle.crush.specs.Paths.{ancestor_of}
use Rattle.keylist.specs.Puts.{put}
use Rattle.maptypes.specs.declared.exception.Exception.{Exception}
use Rattle.maptypes.specs.declared.exception.Pair.{Pair}
use Rattle.maptypes.specs.declared.pg.Pg.{Pg}
use Rattle.maptypes.specs.Exceptions.{key_of, said_of}
use Rattle.maptypes.specs.Pools.{PoolFacts}
use Rattle.osdmap.specs.Maps.{ClusterMap}
use Rattle.maptypes.specs.Sets.{replace, is_of, stands}
use Rattle.osdmap.specs.Placement.{group_of, steps_of, mapped_set, up_set}
use Rattle.balancer.specs.declared.moves.Move.{Move}
use Rattle.balancer.specs.Shares.{osds_of, is_candidate}

-- the move of a group from an OSD to another
abbrev pub move_of : ℕ → ℕ → ℕ → Move
move_of from to group = record { group = group; from = from; to = to }

-- the pair that makes a move
abbrev pub pair_of_move : Move → Pair
pair_of_move v = record { from = v.from; to = v.to }

-- ---- the map after a move

-- the pairs of a group, of which there may be none
abbrev pub pairs_in : ClusterMap → Pg → List Pair
pairs_in m g = unwrap_or (said_of m.items g) []

-- the pairs of a group with that of a move behind them
abbrev pub items_with_move : ClusterMap → PoolFacts → Move → Exception Pair
items_with_move m p v = record {
  pg = group_of p v.group;
  entries = pairs_in m (group_of p v.group) ++ pair_of_move v ∷ [];
}

-- the map where the pair is appended to those of the group
unfoldable pub after_move : ClusterMap → PoolFacts → Move → ClusterMap
after_move m p v = record m { items = put key_of m.items (items_with_move m p v) }

-- ---- what stands above an OSD

-- the type that a step chooses
abbrev pub level_chosen : Step → Option ℕ
level_chosen (step.Choose c) = Some c.level
level_chosen (step.Take _) = None
level_chosen (step.SetChooseTries _) = None
level_chosen (step.SetChooseleafTries _) = None
level_chosen (step.SetChooseleafVaryR _) = None
level_chosen (step.SetChooseleafStable _) = None
level_chosen step.Emit = None

-- the types that steps choose, in order
abbrev pub levels_of : List Step → List ℕ
levels_of steps = filter_map level_chosen steps

-- the last of the types that a rule chooses, over whose buckets a group is spread, and those before it
abbrev pub last_level : List ℕ → ℕ
last_level levels = slice_index levels (length levels - 1)

-- the types that a rule chooses before the last
abbrev pub earlier_levels : List ℕ → List ℕ
earlier_levels levels = take (length levels - 1) levels

-- the failure domain of an OSD: the bucket of a type above it, and for type 0 the OSD itself
unfoldable pub domain_of : ClusterMap → ℕ → ℕ → Option ℤ
domain_of m level osd = if level == 0 then Some (pos osd) else ancestor_of m.buckets (pos osd) level

-- the failure domains of all OSDs, by number
abbrev pub domains_of : ClusterMap → ℕ → List (Option ℤ)
domains_of m level = map (domain_of m level) (osds_of m)

-- whether two OSDs have the same bucket of a type above them, or neither has one
abbrev pub are_under_same : ClusterMap → ℕ → ℕ → ℕ → Bool
are_under_same m some other level =
    option_eq int_eq (ancestor_of m.buckets (pos some) level) (ancestor_of m.buckets (pos other) level)

-- whether they have so for each type that the pool's rule chooses before the last
unfoldable pub are_beside : ClusterMap → PoolFacts → ℕ → ℕ → Bool
are_beside m p some other = list_all (are_under_same m some other) (earlier_levels (levels_of (steps_of m p)))

-- whether a place has an OSD, but not the one that goes, in a failure domain
abbrev pub is_in_way : ClusterMap → ℕ → ℕ → Option ℤ → Option ℕ → Bool
is_in_way m level from domain place =
    option_map_or (λ o. not (o == from) && option_eq int_eq (domain_of m level o) domain) place false

-- whether the OSD that comes has a failure domain, and no place of a set is in its way there
unfoldable pub has_way : ClusterMap → ℕ → ℕ → ℕ → List (Option ℕ) → Bool
has_way m level from to set =
    is_some (domain_of m level to) && not (list_any (is_in_way m level from (domain_of m level to)) set)

-- whether it has a failure domain of its own in the group, by the last type that the pool's rule chooses
unfoldable pub has_own_domain : ClusterMap → PoolFacts → Move → Bool
has_own_domain m p v = has_way m (last_level (levels_of (steps_of m p))) v.from v.to (mapped_set m p v.group)

-- ---- allowed moves

-- whether two sets are the same, place by place
abbrev pub is_same_set : List (Option ℕ) → List (Option ℕ) → Bool
is_same_set [] [] = true
is_same_set [] (place ∷ places) = false
is_same_set (place ∷ places) [] = false
is_same_set (place ∷ places) (other ∷ others) = option_eq (λ a b. a == b) place other && is_same_set places others

-- whether the pair makes of the mapped set of the group the same set with the one OSD in place of the other
unfoldable pub does_replace : ClusterMap → PoolFacts → Move → Bool
does_replace m p v =
    is_same_set (mapped_set (after_move m p v) p v.group) (replace (pair_of_move v) (mapped_set m p v.group))

-- whether the group stands on the OSD from which it goes: in its up set, and once in its mapped set
unfoldable pub stands_on : ClusterMap → PoolFacts → Move → Bool
stands_on m p v = stands v.from (up_set m p v.group) && (count_by (is_of v.from) (mapped_set m p v.group) == 1)

-- whether the group may have one more pair
unfoldable pub has_room : ClusterMap → PoolFacts → Move → Bool
has_room m p v = nat_lt (length (pairs_in m (group_of p v.group))) p.size

-- whether a move is allowed: it goes between candidates, the group stands on the first, the pair takes it to the second
-- and is not one too many, the second is where the rule could have chosen it in place of the first, and in a failure
-- domain of its own
unfoldable pub is_allowed : ClusterMap → PoolFacts → Move → Bool
is_allowed m p v =
    is_candidate m p v.from && is_candidate m p v.to && stands_on m p v && does_replace m p v && has_room m p v
    && are_beside m p v.from v.to && has_own_domain m p v
