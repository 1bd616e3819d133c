-- What a good move makes of a map.
use Rattle.std.proofs.Common.{◌≡◌, ◌≢◌, ◌∙◌, refl, sym, ap, ℕ, ◌<◌, Bool, true, false, not, ◌&&◌, eqb, List, [], ◌∷◌, ◌++◌, length, get_or, set, Option, Some, None, unwrap_or, inl, inr, arith, eq-eqb}
use mathlib.Core.Bool.{false≢true}
use Rattle.std.specs.Prelude.{nat_lt, nat_le}
use Rattle.std.specs.List.{list_all, count_by}
use Rattle.std.specs.Option.{option_map, option_map_or}
use Rattle.std.proofs.lemmas.Bool.{cases_Bool, ne_eqb, eqb-true, and_parts, lt-ltb}
use Rattle.std.proofs.lemmas.Bool.Decides.{nat_tests}
use Rattle.std.proofs.lemmas.List.{get_or-set_same, get_or-set_other, length-set, length_push}
use Rattle.std.proofs.lemmas.List.Folds.{list_all-append}
use Rattle.std.proofs.lemmas.List.FromFn.{fill_by_all, length-map-range_with_len, get_or-map-range_with_len}
use Rattle.keylist.specs.Keys.{entry_at}
use Rattle.keylist.proofs.Tests.{not_true}
use Rattle.keylist.proofs.KeyedMaps.{rising-put, list_all-put}
use Rattle.maptypes.specs.declared.exception.Exception.{Exception}
use Rattle.maptypes.specs.declared.exception.Pair.{Pair}
use Rattle.maptypes.specs.declared.pg.Pg.{Pg}
use Rattle.maptypes.specs.Exceptions.{pg_key, key_of, sides, are_pairs, is_exception, has_group, all_named, is_sound}
use Rattle.maptypes.specs.Pools.{PoolFacts}
use Rattle.osdmap.specs.Maps.{ClusterMap, pool_at, osd_exists, HoldsTogether}
use Rattle.osdmap.specs.Mapped.{with_pair}
use Rattle.maptypes.specs.Sets.{replace, is_of, stands}
use Rattle.osdmap.specs.Placement.{group_of, steps_of, mapped_set}
use Rattle.osdmap.proofs.PlacementLemmas.{found_passes}
use Rattle.balancer.specs.Shares.{Aim}
use Rattle.balancer.specs.declared.moves.Move.{Move}
use Rattle.balancer.specs.Moves.{pair_of_move, pairs_in, items_with_move, after_move, last_level, levels_of, has_way}
use Rattle.balancer.specs.Boards.{IsGood, is_fixed, group_at, board_groups, group_after, may_go}
use Rattle.balancer.proofs.MappedSetsMoved.{said_moved, said_others, mapped_moved, mapped_others}
use Rattle.balancer.proofs.DeviationsSmall.{candidate_exists, candidate_weighs}
use Rattle.balancer.proofs.AllowedByTests.{good_candidates, good_apart, good_goes}

-- a move leaves whether pairs of a group do nothing
fixed_stays : (m : ClusterMap) (p : PoolFacts) (v : Move) (g : Pg) → is_fixed (after_move m p v) g ≡ is_fixed m g
unfolding is_fixed after_move
fixed_stays m p v g = refl

-- ---- what a good move has passed

module _ (m : ClusterMap) (p : PoolFacts) (cs : Aim) (v : Move) (good : IsGood m p cs v) where
  abbrev group : Pg
  group = group_of p v.group

  abbrev places : List (Option ℕ)
  places = mapped_set m p v.group

  abbrev way : Bool
  way = has_way m (last_level (levels_of (steps_of m p))) v.from v.to places

  goes : (not (is_fixed m group) && eqb (count_by (is_of v.from) places) 1 && not (stands v.to places) && nat_lt (length (pairs_in m group)) p.size && way) ≡ true
  unfolding may_go group_at
  goes = (good_goes m p cs v good.good).1

  abbrev fits : Bool
  fits = nat_lt (length (pairs_in m group)) p.size

  goes_fits : ((not (is_fixed m group) && eqb (count_by (is_of v.from) places) 1 && not (stands v.to places)) ≡ true) × (fits ≡ true)
  goes_fits =
      let a = (and_parts (not (is_fixed m group) && eqb (count_by (is_of v.from) places) 1 && not (stands v.to places) && fits) way goes).0 in
      let b = and_parts (not (is_fixed m group) && eqb (count_by (is_of v.from) places) 1 && not (stands v.to places)) fits a in
      (b.0, b.1)

  goes_there : ((not (is_fixed m group) && eqb (count_by (is_of v.from) places) 1) ≡ true) × (not (stands v.to places) ≡ true)
  goes_there =
      let a = and_parts (not (is_fixed m group) && eqb (count_by (is_of v.from) places) 1) (not (stands v.to places)) goes_fits.0 in
      (a.0, a.1)

  pub room_left : length (pairs_in m group) < p.size
  room_left = let h = goes_fits.1 in grind (arith, nat_tests)

  pub not_there : stands v.to places ≡ false
  not_there = not_true (stands v.to places) goes_there.1

  pub not_fixed : is_fixed m group ≡ false
  not_fixed = not_true (is_fixed m group) (and_parts (not (is_fixed m group)) (eqb (count_by (is_of v.from) places) 1) goes_there.0).0

  pub stands_once : count_by (is_of v.from) places ≡ 1
  stands_once = eqb-true (count_by (is_of v.from) places) 1 (and_parts (not (is_fixed m group)) (eqb (count_by (is_of v.from) places) 1) goes_there.0).1

  -- ---- its set

  pub mapped_gone : mapped_set (after_move m p v) p v.group ≡ replace (pair_of_move v) places
  unfolding with_pair
  mapped_gone = mapped_moved m p v ∙ rw (not_fixed, not_there, candidate_weighs m p v.to (good_candidates m p cs v good.good).1) refl

  group_moved : group_at (after_move m p v) p v.group ≡ group_after (group_at m p v.group) v
  unfolding group_at
  group_moved =
      let pairs : pairs_in (after_move m p v) group ≡ pairs_in m group ++ pair_of_move v ∷ [] = ap (λ (o : Option (List Pair)). unwrap_or o []) (said_moved m p v) in
      λ i. record { places = mapped_gone i; pairs = pairs i; is_fixed = fixed_stays m p v group i }

  pub group_other : (n : ℕ) → n ≢ v.group → group_at (after_move m p v) p n ≡ group_at m p n
  unfolding group_at
  group_other n other =
      let pairs : pairs_in (after_move m p v) (group_of p n) ≡ pairs_in m (group_of p n) = ap (λ (o : Option (List Pair)). unwrap_or o []) (said_others m p v n other) in
      λ i. record { places = mapped_others m p v n other i; pairs = pairs i; is_fixed = fixed_stays m p v (group_of p n) i }

  pub groups_moved : board_groups (after_move m p v) p ≡ set (board_groups m p) v.group (group_after (group_at m p v.group) v)
  groups_moved =
      let d = group_at m p 0 in
      let new = set (board_groups m p) v.group (group_after (group_at m p v.group) v) in
      let long : length new ≡ p.pg_num = length-set (board_groups m p) v.group (group_after (group_at m p v.group) v) ∙ length-map-range_with_len (group_at m p) 0 p.pg_num in
      sym (fill_by_all (group_at (after_move m p v) p) new p.pg_num d long each)
    where
      each : (k : ℕ) → k < p.pg_num → get_or (set (board_groups m p) v.group (group_after (group_at m p v.group) v)) k (group_at m p 0) ≡ group_at (after_move m p v) p k
      each k below = elim (cases_Bool (eqb k v.group)) [
        | inl here ↦
            let same : k ≡ v.group = eqb-true k v.group here in
            let inside : v.group < length (board_groups m p) = omega (arith, good.there, length-map-range_with_len (group_at m p) 0 p.pg_num) in
            rw same (get_or-set_same (board_groups m p) v.group (group_after (group_at m p v.group) v) (group_at m p 0) inside ∙ sym group_moved)
        | inr apart ↦
            let other : k ≢ v.group = λ e. absurd (false≢true (sym apart ∙ eq-eqb k v.group e)) in
            get_or-set_other (board_groups m p) v.group k (group_after (group_at m p v.group) v) (group_at m p 0) other
            ∙ get_or-map-range_with_len (group_at m p) 0 p.pg_num k k (group_at m p 0) below (omega arith) ∙ sym (group_other k other)
      ]

  -- ---- the map holds together

  old_pairs : HoldsTogether m → (o : Option (Exception Pair)) → entry_at key_of m.items (pg_key group) ≡ o
      → (list_all (λ q. list_all (osd_exists m) (sides q)) (unwrap_or (option_map (λ e. e.entries) o) []) ≡ true) × (are_pairs (unwrap_or (option_map (λ e. e.entries) o) []) ≡ true)
  old_pairs holds None found = (refl, refl)
  old_pairs holds (Some e) found =
      let passes = found_passes _ (is_exception sides are_pairs m.pools (osd_exists m)) m.items e found holds.items.sound in
      let both = and_parts (has_group m.pools e.pg && all_named sides (osd_exists m) e) (is_sound are_pairs m.pools e) passes in
      let named = (and_parts (has_group m.pools e.pg) (all_named sides (osd_exists m) e) both.0).1 in
      (named, pairs_sound (entry_at (λ (q : PoolFacts). q.id) m.pools e.pg.pool) both.1)
    where
      pairs_sound : (q : Option PoolFacts) → option_map_or (λ x. nat_lt 0 (length e.entries) && nat_le (length e.entries) x.size && are_pairs e.entries) q false ≡ true → are_pairs e.entries ≡ true
      pairs_sound None is = absurd (false≢true is)
      pairs_sound (Some x) is = (and_parts (nat_lt 0 (length e.entries) && nat_le (length e.entries) x.size) (are_pairs e.entries) is).1

  pub lengthened_sound : HoldsTogether m → pool_at m.pools p.id ≡ Some p → is_exception sides are_pairs m.pools (osd_exists m) (items_with_move m p v) ≡ true
  lengthened_sound holds there =
      let both = good_candidates m p cs v good.good in
      let old = old_pairs holds (entry_at key_of m.items (pg_key group)) refl in
      let long = length_push (pairs_in m group) (pair_of_move v) in
      let few : nat_le (length (pairs_in m group ++ pair_of_move v ∷ [])) p.size ≡ true = let h = room_left in grind (arith, nat_tests) in
      let some : nat_lt 0 (length (pairs_in m group ++ pair_of_move v ∷ [])) ≡ true = grind (arith, nat_tests) in
      let named : list_all (λ q. list_all (osd_exists m) (sides q)) (pairs_in m group ++ pair_of_move v ∷ []) ≡ true =
      list_all-append (λ q. list_all (osd_exists m) (sides q)) (pairs_in m group) (pair_of_move v ∷ []) ∙ rw (old.0, candidate_exists m p v.from both.0, candidate_exists m p v.to both.1) refl in
      let pairs : are_pairs (pairs_in m group ++ pair_of_move v ∷ []) ≡ true =
      list_all-append (λ q. not (eqb q.from q.to)) (pairs_in m group) (pair_of_move v ∷ []) ∙ rw (old.1, ne_eqb v.from v.to (good_apart m p cs v good.good)) refl in
      rw (there, lt-ltb v.group p.pg_num good.there, named, some, few, pairs) refl

  pub holds_moved : HoldsTogether m → pool_at m.pools p.id ≡ Some p → HoldsTogether (after_move m p v)
  unfolding after_move
  holds_moved holds there = record {
    osds = holds.osds;
    crush = holds.crush;
    over_osds = holds.over_osds;
    pools = holds.pools;
    ruled = holds.ruled;
    explicit = holds.explicit;
    items = record {
      rise = rising-put key_of m.items (items_with_move m p v) holds.items.rise;
      sound = list_all-put key_of (is_exception sides are_pairs m.pools (osd_exists m)) m.items (items_with_move m p v) holds.items.sound (lengthened_sound holds there);
    };
  }
