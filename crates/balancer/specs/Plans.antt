-- Plans as changes of a map, and what a plan is worth.
use Rattle.std.specs.Prelude.{◌≡◌, ℕ, ◌+◌, ◌*◌, ◌<◌, ◌≤◌, ◌==◌, Bool, false, List, [], length, slice_index_or, map, Option, Some, None, IfSome}
use Rattle.std.specs.List.{filter, list_any, range_with_len}
use Rattle.std.specs.Option.{option_map_or}
use Rattle.refusal.specs.declared.refused.Refusal.{Refusal}
use Rattle.refusal.specs.declared.refused.Refusal.TheVariants.{UnknownPool, BalanceRule}
use Rattle.refusal.specs.Outcomes.{refused_unless}
use Rattle.maptypes.specs.declared.change.ChangeParts.{ChangeParts}
use Rattle.maptypes.specs.declared.exception.Exception.{Exception}
use Rattle.maptypes.specs.declared.exception.Pair.{Pair}
use Rattle.maptypes.specs.Named.{items_alone}
use Rattle.maptypes.specs.Pools.{PoolFacts}
use Rattle.mapparts.specs.declared.profile.Profile.TheVariants.{Stock}
use Rattle.osdmap.specs.Maps.{ClusterMap, pool_at}
use Rattle.osdmap.specs.Placement.{group_of, steps_of}
use Rattle.pgtable.specs.Patches.{changed_map}
use Rattle.balancer.specs.declared.moves.Move.{Move}
use Rattle.balancer.specs.Shares.{has_one_block, unevenness, Aim, least_gain}
use Rattle.balancer.specs.Moves.{pairs_in}
use Rattle.balancer.specs.Greedy.{good_moves, greedy, after_moves}

-- ---- what refuses a plan

-- what refuses a plan for this pool, if there is one
abbrev pub plan_fault_of : ClusterMap → Option PoolFacts → Option Refusal
plan_fault_of m None = Some UnknownPool
plan_fault_of m (Some p) = refused_unless (has_one_block (steps_of m p)) BalanceRule

-- there is no such pool, else its rule has more than one block
abbrev pub plan_fault : ClusterMap → ℕ → Option Refusal
plan_fault m pool = plan_fault_of m (pool_at m.pools pool)

-- ---- the change of a plan

-- whether some move moves a group
abbrev pub is_moved : List Move → ℕ → Bool
is_moved moves n = list_any (λ v. v.group == n) moves

-- of so many groups, by number, it is known whether some move moves them
pub record AreMoved (moves : List Move) (count : ℕ) (moved : List Bool) : Type 0 where
  pub all : length moved ≡ count
  pub each : (n : ℕ) → n < count → slice_index_or moved n false ≡ is_moved moves n

-- the pairs of a group of a pool, as an exception
abbrev pub items_at : ClusterMap → PoolFacts → ℕ → Exception Pair
items_at m p n = record { pg = group_of p n; entries = pairs_in m (group_of p n) }

-- for each group moved, by number upwards, the whole list of its pairs after the moves
unfoldable pub moved_items : ClusterMap → PoolFacts → List Move → List (Exception Pair)
moved_items m p moves = map (items_at (after_moves m p moves) p) (filter (is_moved moves) (range_with_len 0 p.pg_num))

-- the change that gives these groups their pairs, and does nothing else: as many pools stay as a stock cluster may have
abbrev pub change_of : List (Exception Pair) → ChangeParts
change_of items = items_alone Stock items

-- the moves of the plan for a pool
unfoldable pub plan_moves : ClusterMap → ℕ → Aim → ℕ → List Move
plan_moves m pool aim limit = option_map_or (λ p. greedy m p aim limit) (pool_at m.pools pool) []

-- the change of the moves of the plan for a pool
unfoldable pub plan_change : ClusterMap → ℕ → Aim → ℕ → ChangeParts
plan_change m pool aim limit =
    change_of (option_map_or (λ p. moved_items m p (greedy m p aim limit)) (pool_at m.pools pool) [])

-- a change and a number of moves are those of the greedy plan
pub record IsPlan (m : ClusterMap) (pool : ℕ) (aim : Aim) (limit : ℕ) (change : ChangeParts) (count : ℕ) :
    Type 0 where
  pub is : change ≡ plan_change m pool aim limit
  pub counts : count ≡ length (plan_moves m pool aim limit)

-- ---- what a plan is worth

-- the change of so many moves lowers the sum of the squares of the deviations by the least gain or more for each of
-- them
pub record Evens (m : ClusterMap) (pool : ℕ) (aim : Aim) (change : ChangeParts) (count : ℕ) : Type 0 where
  pub evens : IfSome (pool_at m.pools pool)
      (λ p. unevenness (changed_map m change) p aim + least_gain m p aim * count ≤ unevenness m p aim)

-- after the change no move is good
pub record LeavesNone (m : ClusterMap) (pool : ℕ) (aim : Aim) (change : ChangeParts) : Type 0 where
  pub none : IfSome (pool_at m.pools pool) (λ p. good_moves (changed_map m change) p aim ≡ [])
