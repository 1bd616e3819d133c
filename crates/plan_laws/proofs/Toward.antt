-- A plan with carried counts is the plan toward the shares that they leave, which no move changes.
use Rattle.std.proofs.Common.{◌≡◌, ◌∙◌, refl, sym, ap, subst, ℕ, zero, suc, ◌+◌, ◌*◌, ◌<◌, true, not, ◌&&◌, ◌||◌, ℤ, pos, List, [], ◌∷◌, map, Option, Some, None, arith}
use Rattle.std.specs.Prelude.{◌-ℤ◌, ◌+ℤ◌, ◌*ℤ◌, int_lt}
use Rattle.std.specs.List.{All, filter, find, flat_map, list_all, range_with_len}
use Rattle.std.specs.Option.{option_map_or}
use Rattle.std.specs.Ordering.{int_eq}
use Rattle.std.proofs.lemmas.Int.{ints}
use Rattle.std.proofs.lemmas.List.Concat.{flat_map-cons}
use Rattle.std.proofs.lemmas.List.Elements.{All-nil, All-append, All-map, All-filter, filter_passes}
use Rattle.std.proofs.lemmas.List.FromFn.{get_or-range_with_len, length-range_with_len}
use Rattle.keylist.proofs.Counts.{find-place}
use Rattle.maptypes.specs.Pools.{PoolFacts}
use Rattle.osdmap.specs.Maps.{ClusterMap, pool_at, HoldsTogether}
use Rattle.pgtable.specs.Index.{count_in}
use Rattle.balancer.specs.declared.moves.Move.{Move}
use Rattle.balancer.specs.Boards.{IsGood}
use Rattle.balancer.specs.Shares.{osds_of, weight_in_map, total_weight, places, above_share, group_weight, deviation, Aim, carried_by, least_gap}
use Rattle.balancer.specs.Moves.{move_of, after_move, is_allowed}
use Rattle.balancer.specs.Greedy.{gap, is_good, all_moves, good_moves, precedes, beats, best_move, greedy}
use Rattle.balancer.proofs.CountsAfterMove.{total_moved, weight_moved, places_moved}
use Rattle.balancer.proofs.MapAfterMove.{holds_moved}
use Rattle.plan_laws.specs.Toward.{aimed_at, above, gap_toward, is_good_toward, beats_toward, best_toward, greedy_toward}

-- ---- the words of the plan, toward shares that are those aimed at

module _ (shares : ℕ → ℤ) (m : ClusterMap) (p : PoolFacts) (aim : Aim) (same : (osd : ℕ) → shares osd ≡ aimed_at m p aim osd) where
  -- a deviation is how far the groups are above the share
  above_is : (osd : ℕ) → deviation m p aim osd ≡ above shares m p osd
  unfolding deviation above above_share aimed_at group_weight
  above_is osd = rw (same osd) (split (count_in m p.id osd) (total_weight m p) (places m p * weight_in_map m osd) (carried_by aim.carried osd *ℤ pos (total_weight m p)))
    where
      split : (c t w : ℕ) (k : ℤ) → (pos 256 *ℤ (pos (c * t) -ℤ pos w) +ℤ k) ≡ (pos (c * (256 * t)) -ℤ (pos (256 * w) -ℤ k))
      split c t w k = omega (arith, ints)

  gap_is : (from to : ℕ) → gap m p aim from to ≡ gap_toward shares m p from to
  gap_is from to = λ i. above_is from i -ℤ above_is to i

  good_is : (v : Move) → is_good m p aim v ≡ is_good_toward shares aim.apart m p v
  unfolding is_good is_good_toward least_gap
  good_is v = λ i. is_allowed m p v && int_lt (pos (aim.apart * total_weight m p + 255)) (gap_is v.from v.to i)

  beats_is : (u v : Move) → beats m p aim u v ≡ beats_toward shares m p u v
  unfolding beats beats_toward
  beats_is u v = λ i.
      int_lt (gap_is v.from v.to i) (gap_is u.from u.to i)
      || (int_eq (gap_is u.from u.to i) (gap_is v.from v.to i) && precedes u v)

  best_is : best_move m p aim ≡ best_toward shares aim.apart m p
  unfolding best_move best_toward
  best_is = λ i.
      find (λ v. list_all (λ u. not (beats_is u v i)) (filter (λ w. good_is w i) (all_moves m p))) (filter (λ w. good_is w i) (all_moves m p))

-- ---- the best move is good

-- all of a range is below its bound
range_below : (n : ℕ) → All (λ k. k < n) (range_with_len 0 n)
range_below n = λ k d inside. let at = get_or-range_with_len 0 n k d (omega (arith, inside, length-range_with_len 0 n)) in omega (arith, at, inside, length-range_with_len 0 n)

-- what holds of each list of an entry holds of all of them together
all_flat : {X Y : Type 0} (P : Y → Type 0) (f : X → List Y) (xs : List X) → ((x : X) → All P (f x)) → All P (flat_map f xs)
all_flat P f [] each = All-nil P
all_flat P f (x ∷ xs) each = subst (All P) (sym (flat_map-cons f x xs)) (All-append P (f x) (flat_map f xs) (each x) (all_flat P f xs each))

module _ (m : ClusterMap) (p : PoolFacts) (aim : Aim) where
  moves_there : All (λ (v : Move). v.group < p.pg_num) (all_moves m p)
  moves_there =
      all_flat (λ (v : Move). v.group < p.pg_num) (λ from. flat_map (λ to. map (move_of from to) (range_with_len 0 p.pg_num)) (osds_of m)) (osds_of m)
      (λ from. all_flat (λ (v : Move). v.group < p.pg_num) (λ to. map (move_of from to) (range_with_len 0 p.pg_num)) (osds_of m)
      (λ to. All-map (λ (v : Move). v.group < p.pg_num) (move_of from to) (range_with_len 0 p.pg_num) (range_below p.pg_num)))

  best_good : (v : Move) → best_move m p aim ≡ Some v → IsGood m p aim v
  unfolding best_move
  best_good v best =
      let (k, inside, at, passes) = find-place (λ w. list_all (λ u. not (beats m p aim u w)) (good_moves m p aim)) (good_moves m p aim) v best in
      record {
        good = subst (λ w. is_good m p aim w ≡ true) at (filter_passes (is_good m p aim) (all_moves m p) k v inside);
        there = subst (λ (w : Move). w.group < p.pg_num) at (All-filter (is_good m p aim) (λ (w : Move). w.group < p.pg_num) (all_moves m p) moves_there k v inside);
      }

-- ---- a move leaves the shares

-- what is aimed at stays behind a good move
aimed_stays : (m : ClusterMap) (p : PoolFacts) (aim : Aim) (v : Move) → IsGood m p aim v → HoldsTogether m → pool_at m.pools p.id ≡ Some p → (osd : ℕ) → aimed_at (after_move m p v) p aim osd ≡ aimed_at m p aim osd
unfolding aimed_at
aimed_stays m p aim v good holds there osd =
    λ i. pos (256 * (places_moved m p aim v good holds there i * weight_moved m p aim v good holds there osd i)) -ℤ carried_by aim.carried osd *ℤ pos (total_moved m p aim v good holds there i)

-- and so does the pool
pool_stays : (m : ClusterMap) (p : PoolFacts) (v : Move) → pool_at m.pools p.id ≡ Some p → pool_at (after_move m p v).pools p.id ≡ Some p
unfolding after_move
pool_stays m p v there = there

-- ---- the plan

-- the plan toward shares that are those aimed at
toward_is : (shares : ℕ → ℤ) (aim : Aim) (p : PoolFacts) (n : ℕ) (m : ClusterMap) → ((osd : ℕ) → shares osd ≡ aimed_at m p aim osd) → HoldsTogether m → pool_at m.pools p.id ≡ Some p → greedy m p aim n ≡ greedy_toward shares aim.apart m p n
unfolding greedy greedy_toward
toward_is shares aim p zero m same holds there = refl
toward_is shares aim p (suc n) m same holds there =
    each (best_move m p aim) (best_good m p aim)
    (λ v is. toward_is shares aim p n (after_move m p v) (λ osd. same osd ∙ sym (aimed_stays m p aim v is holds there osd)) (holds_moved m p aim v is holds there) (pool_stays m p v there))
    ∙ ap (λ best. option_map_or (λ v. v ∷ greedy_toward shares aim.apart (after_move m p v) p n) best []) (best_is shares m p aim same)
  where
    each : (best : Option Move) → ((v : Move) → best ≡ Some v → IsGood m p aim v)
        → ((v : Move) → IsGood m p aim v → greedy (after_move m p v) p aim n ≡ greedy_toward shares aim.apart (after_move m p v) p n)
        → option_map_or (λ v. v ∷ greedy (after_move m p v) p aim n) best [] ≡ option_map_or (λ v. v ∷ greedy_toward shares aim.apart (after_move m p v) p n) best []
    each None good rest = refl
    each (Some v) good rest = ap (λ moves. v ∷ moves) (rest v (good v refl))

-- the plan toward the shares that it aims at
pub plan_is : (m : ClusterMap) (p : PoolFacts) (aim : Aim) (n : ℕ) → HoldsTogether m → pool_at m.pools p.id ≡ Some p → greedy m p aim n ≡ greedy_toward (aimed_at m p aim) aim.apart m p n
plan_is m p aim n holds there = toward_is (aimed_at m p aim) aim p n m (λ osd. refl) holds there
