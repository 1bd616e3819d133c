-- The change of a plan: nothing refuses it, and it leads to the map after the moves.
use Rattle.std.proofs.Common.{◌≡◌, ◌≢◌, ◌∙◌, refl, sym, ap, subst, ℕ, suc, ◌+◌, ◌<◌, ◌≤◌, Bool, true, false, not, ◌&&◌, eqb, List, [], ◌∷◌, length, get_or, map, Option, Some, None, arith, eq-eqb}
use mathlib.Core.Bool.{false≢true}
use Rattle.std.specs.Prelude.{nat_le, nat_lt, is_some}
use Rattle.std.specs.List.{filter, find, fold, list_all, range_with_len}
use Rattle.std.specs.Option.{option_map, option_map_or, option_or}
use Rattle.std.proofs.lemmas.Bool.{ne_eqb, eqb-true, and_parts}
use Rattle.std.proofs.lemmas.Bool.Decides.{nat_tests}
use Rattle.std.proofs.lemmas.List.{get_or-map, length-map}
use Rattle.std.proofs.lemmas.List.Elements.{filter_passes}
use Rattle.std.proofs.lemmas.List.Folds.{list_all-map, map_fixed, list_any_at}
use Rattle.std.proofs.lemmas.List.FromFn.{length-range_with_len, get_or-range_with_len}
use Rattle.keylist.specs.Keys.{entry_at, has_key, is_distinct}
use Rattle.keylist.specs.Order.{IsRising}
use Rattle.keylist.specs.Puts.{put}
use Rattle.keylist.proofs.Counts.{find-place}
use Rattle.keylist.proofs.Distinct.{rising_distinct}
use Rattle.keylist.proofs.Each.{all_more, all_so}
use Rattle.keylist.proofs.KeyedMaps.{has-entry, entry-put, entry-puts, entry-reverse, rising-puts, list_all-filter}
use Rattle.keylist.proofs.KeyedOrder.{rising-filter}
use Rattle.maptypes.specs.declared.change.ChangeParts.{ChangeParts}
use Rattle.maptypes.specs.declared.exception.Exception.{Exception}
use Rattle.maptypes.specs.declared.exception.Pair.{Pair}
use Rattle.maptypes.specs.declared.pg.Pg.{Pg}
use Rattle.maptypes.specs.Exceptions.{pg_key, key_of, has_pool_of, has_group, sides, are_pairs, all_named, is_sound, is_exception, stays, exceptions_after}
use Rattle.maptypes.specs.Growth.{with_growths}
use Rattle.mapparts.specs.Limits.{max_pools, max_total_groups}
use Rattle.maptypes.specs.Pools.{PoolFacts, total_groups}
use Rattle.osdmap.specs.Maps.{ClusterMap, osd_exists, has_rule, HoldsTogether}
use Rattle.osdmap.specs.Changes.{names_osds, weighs_rightly, pools_kept, pools_there, pools_after, names_pools, brings_new, brings_forest, leaves_few_groups, brings_rightly, names_groups, excepts_soundly, change_fault, apply}
use Rattle.maptypes.specs.Named.{all_named_groups, names_once}
use Rattle.osdmap.specs.Placement.{group_of}
use Rattle.osdmap.proofs.PlacementLemmas.{found_passes}
use Rattle.pgtable.specs.Patches.{changed_map}
use Rattle.pgtable.proofs.Shows.{find_map}
use Rattle.balancer.specs.Shares.{Aim}
use Rattle.balancer.specs.declared.moves.Move.{Move}
use Rattle.balancer.specs.Moves.{after_move, items_with_move}
use Rattle.balancer.specs.Greedy.{after_moves}
use Rattle.balancer.specs.Plans.{is_moved, items_at, moved_items, change_of}
use Rattle.balancer.specs.Boards.{IsReached}
use Rattle.balancer.proofs.UntouchedByMoves.{with_pairs, moves_stay}
use Rattle.crush.proofs.Ancestors.{none_passes}
use Rattle.balancer.proofs.BestCovers.{contains_filter, contains_range}
use Rattle.maptypes.proofs.RisingListsEqual.{rising_same}

-- ---- a change that gives pairs alone

-- a test that all pass leaves a list as it is
filter_all : {X : Type 0} (q : X → Bool) → ((x : X) → q x ≡ true) → (xs : List X) → filter q xs ≡ xs
filter_all q all [] = refl
filter_all q all (x ∷ xs) = rw (all x, filter_all q all xs) refl

module _ (m : ClusterMap) (items : List (Exception Pair)) where
  abbrev change : ChangeParts
  change = change_of items

  kept_same : pools_kept m change ≡ m.pools
  unfolding pools_kept
  kept_same = filter_all (λ (p : PoolFacts). not (has_key (λ id. id) [] p.id)) (λ p. refl) m.pools

  there_same : pools_there m change ≡ m.pools
  unfolding pools_there
  there_same = kept_same

  after_same : pools_after m change ≡ m.pools
  unfolding pools_after with_growths
  after_same = ap (map (with_growths [])) there_same ∙ map_fixed (with_growths []) m.pools (λ k d inside. refl)

  abbrev IsSoundAll : Type 0
  IsSoundAll = list_all (is_exception sides are_pairs m.pools (osd_exists m)) items ≡ true

  osds_named : IsSoundAll → names_osds m change ≡ true
  unfolding names_osds
  osds_named sound =
      all_more (is_exception sides are_pairs m.pools (osd_exists m)) (all_named sides (osd_exists m)) items
      (λ e is. (and_parts (has_group m.pools e.pg) (all_named sides (osd_exists m) e) (and_parts (has_group m.pools e.pg && all_named sides (osd_exists m) e) (is_sound are_pairs m.pools e) is).0).1) sound

  groups_there : IsSoundAll → list_all (λ (e : Exception Pair). has_group m.pools e.pg) items ≡ true
  groups_there sound =
      all_more (is_exception sides are_pairs m.pools (osd_exists m)) (λ (e : Exception Pair). has_group m.pools e.pg) items
      (λ e is. (and_parts (has_group m.pools e.pg) (all_named sides (osd_exists m) e) (and_parts (has_group m.pools e.pg && all_named sides (osd_exists m) e) (is_sound are_pairs m.pools e) is).0).0) sound

  sound_there : IsSoundAll → list_all (is_sound are_pairs m.pools) items ≡ true
  sound_there sound =
      all_more (is_exception sides are_pairs m.pools (osd_exists m)) (is_sound are_pairs m.pools) items
      (λ e is. (and_parts (has_group m.pools e.pg && all_named sides (osd_exists m) e) (is_sound are_pairs m.pools e) is).1) sound

  pool_of_group : (g : Pg) → has_group m.pools g ≡ true → has_pool_of m.pools g ≡ true
  unfolding has_pool_of
  pool_of_group g is = has-entry (λ (p : PoolFacts). p.id) m.pools g.pool ∙ there_if (entry_at (λ (p : PoolFacts). p.id) m.pools g.pool) is
    where
      there_if : (o : Option PoolFacts) → option_map_or (λ p. nat_lt g.number p.pg_num) o false ≡ true → is_some o ≡ true
      there_if None e = absurd (false≢true e)
      there_if (Some p) e = refl

  pools_named : IsSoundAll → names_pools m change ≡ true
  unfolding names_pools all_named_groups
  pools_named sound =
      ap (λ ps. list_all (λ (e : Exception Pair). has_pool_of ps e.pg) items) there_same
      ∙ all_more (λ (e : Exception Pair). has_group m.pools e.pg) (λ (e : Exception Pair). has_pool_of m.pools e.pg) items (λ e is. pool_of_group e.pg is) (groups_there sound)

  brought_rightly : HoldsTogether m → brings_rightly m change ≡ true
  unfolding brings_rightly leaves_few_groups is_distinct
  brought_rightly holds =
      let ruled : list_all (has_rule m.rules) (pools_kept m change) ≡ true = ap (list_all (has_rule m.rules)) kept_same ∙ holds.ruled in
      let few : nat_le (length (pools_there m change)) max_pools ≡ true = ap (λ (ps : List PoolFacts). nat_le (length ps) max_pools) there_same ∙ few_pools (length m.pools) holds.pools.few in
      let groups : nat_le (total_groups (pools_after m change)) max_total_groups ≡ true = ap (λ (ps : List PoolFacts). nat_le (total_groups ps) max_total_groups) after_same ∙ few_groups (total_groups m.pools) holds.pools.few_groups in
      rw (ruled, few, groups) refl
    where
      few_groups : (n : ℕ) → n ≤ 1048576 → nat_le n 1048576 ≡ true
      few_groups n h = grind (arith, nat_tests)

      few_pools : (n : ℕ) → n ≤ 256 → nat_le n 256 ≡ true
      few_pools n h = grind (arith, nat_tests)

  groups_named : IsSoundAll → names_groups m change ≡ true
  unfolding names_groups all_named_groups
  groups_named sound = ap (λ ps. list_all (λ (e : Exception Pair). has_group ps e.pg) items) after_same ∙ groups_there sound

  excepted_soundly : IsSoundAll → excepts_soundly m change ≡ true
  unfolding excepts_soundly
  excepted_soundly sound = ap (λ ps. list_all (is_sound are_pairs ps) items) after_same ∙ sound_there sound

  named_once : IsRising key_of items → names_once change ≡ true
  unfolding names_once is_distinct
  named_once rises = rising_distinct key_of items rises

  weighed : weighs_rightly change ≡ true
  unfolding weighs_rightly
  weighed = refl

  brought_new : brings_new m change ≡ true
  unfolding brings_new
  brought_new = refl

  brought_forest : brings_forest m change ≡ true
  unfolding brings_forest
  brought_forest = refl

  pub none_refuses : HoldsTogether m → IsSoundAll → IsRising key_of items → change_fault m change ≡ None
  none_refuses holds sound rises =
      rw (osds_named sound, weighed, pools_named sound, brought_new, brought_forest, brought_rightly holds, groups_named sound, excepted_soundly sound, named_once rises) refl

  explicit_same : exceptions_after [] [] [] m.explicit ≡ m.explicit
  unfolding exceptions_after
  explicit_same = filter_all (stays [] []) (λ e. refl) m.explicit

  items_put : exceptions_after [] [] items m.items ≡ fold (put key_of) m.items items
  unfolding exceptions_after
  items_put = ap (λ es. fold (put key_of) es items) (filter_all (stays [] []) (λ e. refl) m.items)

  -- the map after it
  pub next_with : changed_map m change ≡ record (with_pairs m (fold (put key_of) m.items items)) { epoch = m.epoch + 1 }
  unfolding apply
  next_with = rw (after_same, explicit_same, items_put) refl

-- ---- the pairs of a plan

-- the groups of a pool rise by number
range_rises : (p : PoolFacts) (n : ℕ) → IsRising (λ i. pg_key (group_of p i)) (range_with_len 0 n)
range_rises p n = λ i j d below inside.
    let long = length-range_with_len 0 n in
    let first = get_or-range_with_len 0 n i d (omega arith) in
    let second = get_or-range_with_len 0 n j d (omega arith) in
    omega (arith, first, second)

module _ (m : ClusterMap) (p : PoolFacts) (cs : Aim) (moves : List Move) (reached : IsReached m p cs moves) where
  abbrev now : ClusterMap
  now = after_moves m p moves

  abbrev numbers : List ℕ
  numbers = filter (is_moved moves) (range_with_len 0 p.pg_num)

  sound_one : (n : ℕ) → is_moved moves n ≡ true → is_exception sides are_pairs m.pools (osd_exists m) (items_at now p n) ≡ true
  sound_one n is =
      let e = items_at now p n in
      let passes = found_passes _ (is_exception sides are_pairs now.pools (osd_exists now)) now.items e (reached.named n is) reached.holds.items.sound in
      subst (λ (k : ClusterMap). is_exception sides are_pairs k.pools (osd_exists k) (items_at now p n) ≡ true) (moves_stay m p moves) passes

  pub items_sound : list_all (is_exception sides are_pairs m.pools (osd_exists m)) (moved_items m p moves) ≡ true
  unfolding moved_items
  items_sound =
      list_all-map (is_exception sides are_pairs m.pools (osd_exists m)) (items_at now p) numbers
      ∙ list_all-filter (λ (n : ℕ). true) (λ n. is_exception sides are_pairs m.pools (osd_exists m) (items_at now p n)) (is_moved moves) (λ n yes is. sound_one n is) (range_with_len 0 p.pg_num) (all_so (λ (n : ℕ). true) (λ n. refl) (range_with_len 0 p.pg_num))

  pub items_rise : IsRising key_of (moved_items m p moves)
  unfolding moved_items
  items_rise = λ i j d below inside.
      let rises = rising-filter (λ n. pg_key (group_of p n)) (is_moved moves) (range_with_len 0 p.pg_num) (range_rises p p.pg_num) in
      let long = length-map numbers (items_at now p) in
      let order = rises i j 0 below (omega arith) in
      let first = ap key_of (get_or-map (items_at now p) numbers i 0 d (omega arith)) in
      let second = ap key_of (get_or-map (items_at now p) numbers j 0 d (omega arith)) in
      omega (arith, order, first, second)

  -- ---- the map after its change

  -- pairs of other groups stay
  others_stay : (n : ClusterMap) (vs : List Move) (k : ℕ) → ((i : ℕ) (d : Move) → i < length vs → pg_key (group_of p (get_or vs i d).group) ≢ k)
      → entry_at key_of (after_moves n p vs).items k ≡ entry_at key_of n.items k
  unfolding after_move
  others_stay n [] k other = refl
  others_stay n (v ∷ vs) k other =
      others_stay (after_move n p v) vs k (λ i d inside. other (suc i) d (omega arith))
      ∙ entry-put key_of n.items (items_with_move n p v) k ∙ rw (ne_eqb (pg_key (group_of p v.group)) k (other 0 v (omega arith))) refl

  entry_found : (k : ℕ) (o : Option ℕ) → find (λ n. eqb (pg_key (group_of p n)) k) numbers ≡ o
      → option_or (option_map (items_at now p) o) (entry_at key_of m.items k) ≡ entry_at key_of now.items k
  entry_found k (Some n) found =
      let at = find-place (λ i. eqb (pg_key (group_of p i)) k) numbers n found in
      let is : is_moved moves n ≡ true = rw at.2 at (filter_passes (is_moved moves) (range_with_len 0 p.pg_num) at.0 n at.1) in
      let place : pg_key (group_of p n) ≡ k = eqb-true (pg_key (group_of p n)) k at.3 in
      sym (ap (entry_at key_of now.items) (sym place) ∙ reached.named n is)
  entry_found k None found = sym (others_stay m moves k other)
    where
      other : (i : ℕ) (d : Move) → i < length moves → pg_key (group_of p (get_or moves i d).group) ≢ k
      other i d inside e =
          let g = (get_or moves i d).group in
          let is : is_moved moves g ≡ true = list_any_at (λ (v : Move). eqb v.group g) moves i d inside (eq-eqb g g refl) in
          let there = contains_filter (is_moved moves) (range_with_len 0 p.pg_num) g (contains_range p.pg_num g (reached.there i d inside)) is in
          let fails = none_passes (λ n. eqb (pg_key (group_of p n)) k) numbers there.0 g found there.1 there.2 in
          absurd (false≢true (sym fails ∙ eq-eqb (pg_key (group_of p g)) k e))

  items_after : HoldsTogether m → fold (put key_of) m.items (moved_items m p moves) ≡ now.items
  unfolding moved_items
  items_after holds = rising_same key_of (fold (put key_of) m.items (moved_items m p moves)) now.items (rising-puts key_of m.items (moved_items m p moves) holds.items.rise) reached.holds.items.rise each
    where
      each : (k : ℕ) → entry_at key_of (fold (put key_of) m.items (moved_items m p moves)) k ≡ entry_at key_of (after_moves m p moves).items k
      each k =
          entry-puts key_of m.items (moved_items m p moves) k
          ∙ ap (λ o. option_or o (entry_at key_of m.items k)) (entry-reverse key_of (moved_items m p moves) k items_rise ∙ find_map (λ (e : Exception Pair). eqb (key_of e) k) (items_at (after_moves m p moves) p) numbers)
          ∙ entry_found k (find (λ n. eqb (pg_key (group_of p n)) k) numbers) refl

  pub next_is : HoldsTogether m → changed_map m (change_of (moved_items m p moves)) ≡ record now { epoch = m.epoch + 1 }
  next_is holds =
      next_with m (moved_items m p moves)
      ∙ ap (λ its. record (with_pairs m its) { epoch = m.epoch + 1 }) (items_after holds)
      ∙ ap (λ (n : ClusterMap). record n { epoch = m.epoch + 1 }) (sym (moves_stay m p moves))
