-- What a plan is worth: the epoch of a map does not matter.
use Rattle.std.proofs.Common.{◌≡◌, ◌∙◌, refl, sym, ap, subst, ℕ, ◌+◌, ◌<◌, List, [], length, Some, None, eqb}
use Rattle.std.proofs.lemmas.Bool.{eqb-true}
use Rattle.keylist.specs.Order.{IsRising}
use Rattle.keylist.proofs.Counts.{find-place}
use Rattle.maptypes.specs.declared.change.ChangeParts.{ChangeParts}
use Rattle.maptypes.specs.Exceptions.{key_of}
use Rattle.osdmap.specs.Changes.{change_fault}
use Rattle.maptypes.specs.declared.exception.Exception.{Exception}
use Rattle.maptypes.specs.declared.exception.Pair.{Pair}
use Rattle.maptypes.specs.Pools.{PoolFacts}
use Rattle.std.proofs.lemmas.List.Elements.{filter_agree}
use Rattle.osdmap.specs.Maps.{ClusterMap, pool_at, HoldsTogether}
use Rattle.osdmap.specs.Placement.{placed_devices, raw_set, mapped_set, up_set}
use Rattle.balancer.specs.declared.moves.Move.{Move}
use Rattle.balancer.specs.Shares.{is_candidate, weight_in_map, total_weight, places, above_share, deviation, unevenness, least_gap, Aim}
use Rattle.balancer.specs.Moves.{after_move, domain_of, are_beside, has_way, has_own_domain, does_replace, stands_on, has_room, is_allowed}
use Rattle.balancer.specs.Greedy.{is_good, all_moves, good_moves, greedy, after_moves}
use Rattle.balancer.specs.Plans.{moved_items, change_of, plan_moves, plan_change, IsPlan, Evens, LeavesNone}
use Rattle.balancer.specs.Boards.{IsReached}
use Rattle.balancer.proofs.ChangeOfPlan.{next_is, none_refuses, items_sound, items_rise}

-- a map at another epoch
abbrev dated : ClusterMap → ℕ → ClusterMap
dated m e = record m { epoch = e }

-- another epoch changes no unevenness
uneven_dated : (m : ClusterMap) (p : PoolFacts) (cs : Aim) (e : ℕ) → unevenness (dated m e) p cs ≡ unevenness m p cs
unfolding unevenness deviation above_share places total_weight weight_in_map is_candidate up_set mapped_set raw_set placed_devices
uneven_dated m p cs e = refl

-- nor whether a move is good
good_dated : (m : ClusterMap) (p : PoolFacts) (cs : Aim) (e : ℕ) (v : Move) → is_good (dated m e) p cs v ≡ is_good m p cs v
unfolding is_good least_gap is_allowed stands_on does_replace has_room are_beside has_own_domain has_way domain_of after_move deviation above_share places total_weight weight_in_map is_candidate up_set mapped_set raw_set placed_devices
good_dated m p cs e v = refl

-- nor which moves are
goods_dated : (m : ClusterMap) (p : PoolFacts) (cs : Aim) (e : ℕ) → good_moves (dated m e) p cs ≡ good_moves m p cs
goods_dated m p cs e = filter_agree (is_good (dated m e) p cs) (is_good m p cs) (good_dated m p cs e) (all_moves m p)

module _ (m : ClusterMap) (p : PoolFacts) (cs : Aim) (pool limit : ℕ) (there : pool_at m.pools pool ≡ Some p) where
  plan_is : (moves : List Move) (items : List (Exception Pair)) → moves ≡ greedy m p cs limit → items ≡ moved_items m p moves → IsPlan m pool cs limit (change_of items) (length moves)
  unfolding plan_moves plan_change
  plan_is moves items greedy_is items_are = record {
    is = rw there (ap change_of (items_are ∙ ap (moved_items m p) greedy_is));
    counts = rw there (ap length greedy_is);
  }

  evens_is : (moves : List Move) → HoldsTogether m → IsReached m p cs moves → Evens m pool cs (change_of (moved_items m p moves)) (length moves)
  evens_is moves holds reached = record {
    evens = rw there (rw (next_is m p cs moves reached holds, uneven_dated (after_moves m p moves) p cs (m.epoch + 1)) reached.evens);
  }

  none_is : (moves : List Move) → HoldsTogether m → IsReached m p cs moves → good_moves (after_moves m p moves) p cs ≡ [] → LeavesNone m pool cs (change_of (moved_items m p moves))
  none_is moves holds reached none = record {
    none = rw there (rw (next_is m p cs moves reached holds) (goods_dated (after_moves m p moves) p cs (m.epoch + 1) ∙ none));
  }

-- a pool that is found is found by its own id
pub found_itself : (m : ClusterMap) (p : PoolFacts) (id : ℕ) → pool_at m.pools id ≡ Some p → pool_at m.pools p.id ≡ Some p
found_itself m p id there =
    let at = find-place (λ (q : PoolFacts). eqb q.id id) m.pools p there in
    let same : p.id ≡ id = eqb-true p.id id at.3 in
    ap (pool_at m.pools) same ∙ there

-- ---- a plan as it is made

module _ (m : ClusterMap) (p : PoolFacts) (cs : Aim) (pool limit : ℕ) (there : pool_at m.pools pool ≡ Some p) (holds : HoldsTogether m) (its_map : ClusterMap) (its_pool : PoolFacts) (its_aim : Aim) (moves : List Move)
    (same_map : its_map ≡ m) (same_pool : its_pool ≡ p) (same_aim : its_aim ≡ cs) (is_reached : IsReached its_map its_pool its_aim moves) (items : List (Exception Pair)) (are : items ≡ moved_items its_map its_pool moves) where
  reached : IsReached m p cs moves
  reached =
      subst (λ (ls : Aim). IsReached m p ls moves) same_aim (subst (λ (q : PoolFacts). IsReached m q its_aim moves) same_pool (subst (λ (n : ClusterMap). IsReached n its_pool its_aim moves) same_map is_reached))

  are_items : items ≡ moved_items m p moves
  are_items = are ∙ ap (λ (n : ClusterMap). moved_items n its_pool moves) same_map ∙ ap (λ (q : PoolFacts). moved_items m q moves) same_pool

  pub made_rises : IsRising key_of items
  made_rises = subst (λ (xs : List (Exception Pair)). IsRising key_of xs) (sym are_items) (items_rise m p cs moves reached)

  module _ (change : ChangeParts) (changes : change ≡ change_of items) (count : ℕ) (counts : count ≡ length moves) where
    is_change : change ≡ change_of (moved_items m p moves)
    is_change = changes ∙ ap change_of are_items

    pub made_plan : moves ≡ greedy m p cs limit → IsPlan m pool cs limit change count
    made_plan greedy_is =
        subst (λ n. IsPlan m pool cs limit change n) (sym counts) (subst (λ c. IsPlan m pool cs limit c (length moves)) (sym changes) (plan_is m p cs pool limit there moves items greedy_is are_items))

    pub made_lawful : change_fault m change ≡ None
    made_lawful = subst (λ c. change_fault m c ≡ None) (sym is_change) (none_refuses m (moved_items m p moves) holds (items_sound m p cs moves reached) (items_rise m p cs moves reached))

    pub made_evens : Evens m pool cs change count
    made_evens = subst (λ n. Evens m pool cs change n) (sym counts) (subst (λ c. Evens m pool cs c (length moves)) (sym is_change) (evens_is m p cs pool limit there moves holds reached))

    pub made_none : (length moves < limit → good_moves (after_moves m p moves) p cs ≡ []) → count < limit → LeavesNone m pool cs change
    made_none done fewer = subst (λ c. LeavesNone m pool cs c) (sym is_change) (none_is m p cs pool limit there moves holds reached (done (subst (λ n. n < limit) counts fewer)))
