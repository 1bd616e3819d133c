-- What no move changes: moves only put pairs among the exceptions.
use Rattle.std.proofs.Common.{◌≡◌, refl, ℕ, Bool, true, false, ◌&&◌, List, [], ◌∷◌, Option}
use Rattle.maptypes.specs.declared.exception.Exception.{Exception}
use Rattle.maptypes.specs.declared.exception.Pair.{Pair}
use Rattle.maptypes.specs.Pools.{PoolFacts}
use Rattle.osdmap.specs.Maps.{ClusterMap}
use Rattle.osdmap.specs.Placement.{placed_devices, raw_set}
use Rattle.balancer.specs.declared.group.Group.{Group}
use Rattle.balancer.specs.declared.moves.Move.{Move}
use Rattle.balancer.specs.Shares.{is_candidate, weight_in_map, total_weight}
use Rattle.balancer.specs.Moves.{after_move, domain_of, are_beside, has_way, is_allowed}
use Rattle.balancer.specs.Boards.{may_go}
use Rattle.balancer.specs.Greedy.{after_moves}

-- a map with other pairs of groups
abbrev pub with_pairs : ClusterMap → List (Exception Pair) → ClusterMap
with_pairs m its = record m { items = its }

-- moves change the pairs of a map and nothing else
pub moves_stay : (m : ClusterMap) (p : PoolFacts) (moves : List Move) → after_moves m p moves ≡ with_pairs m (after_moves m p moves).items
unfolding after_move
moves_stay m p [] = refl
moves_stay m p (v ∷ moves) = moves_stay (after_move m p v) p moves

module _ (m : ClusterMap) (its : List (Exception Pair)) where
  pub candidate_stays : (p : PoolFacts) (osd : ℕ) → is_candidate (with_pairs m its) p osd ≡ is_candidate m p osd
  unfolding is_candidate
  candidate_stays p osd = refl

  pub total_stays : (p : PoolFacts) → total_weight (with_pairs m its) p ≡ total_weight m p
  unfolding total_weight is_candidate weight_in_map
  total_stays p = refl

  pub weight_stays : (osd : ℕ) → weight_in_map (with_pairs m its) osd ≡ weight_in_map m osd
  unfolding weight_in_map
  weight_stays osd = refl

  pub beside_stays : (p : PoolFacts) (some other : ℕ) → are_beside (with_pairs m its) p some other ≡ are_beside m p some other
  unfolding are_beside
  beside_stays p some other = refl

  pub way_stays : (level from to : ℕ) (set : List (Option ℕ)) → has_way (with_pairs m its) level from to set ≡ has_way m level from to set
  unfolding has_way domain_of
  way_stays level from to set = refl

  pub raw_stays : (p : PoolFacts) (n : ℕ) → raw_set (with_pairs m its) p n ≡ raw_set m p n
  unfolding raw_set placed_devices
  raw_stays p n = refl

  pub goes_stays : (p : PoolFacts) (from to : ℕ) (g : Group) → may_go (with_pairs m its) p from to g ≡ may_go m p from to g
  unfolding may_go has_way domain_of
  goes_stays p from to g = refl

-- what is beside something false holds no more with another
none_both : (x y : Bool) → (x && false && y) ≡ false
none_both true y = refl
none_both false y = refl

-- no move between OSDs that are not beside one another is allowed
pub apart_refused : (m : ClusterMap) (p : PoolFacts) (v : Move) → are_beside m p v.from v.to ≡ false → is_allowed m p v ≡ false
unfolding is_allowed
apart_refused m p v apart = rw apart (none_both _ _)
