-- Who is a candidate, and how great deviations are.
use Rattle.std.proofs.Common.{◌≡◌, ◌∙◌, refl, ap, subst, ℕ, zero, suc, ◌+◌, ◌-◌, ◌*◌, ◌^◌, ◌<◌, ◌≤◌, Bool, true, false, not, ◌&&◌, ℤ, pos, negsuc, List, [], ◌∷◌, length, get_or, Some, inl, inr, arith}
use Rattle.std.specs.Prelude.{◌+ℤ◌, ◌-ℤ◌, ◌*ℤ◌, ◌<ℤ◌, ◌≤ℤ◌, neg_ℤ}
use Rattle.std.proofs.Math.IntN.{pos-*ℤ-pos, negsuc-*ℤ-pos}
use Rattle.std.specs.List.{filter, sum_by, All}
use Rattle.std.proofs.lemmas.Bool.{cases_Bool, cases_lt}
use Rattle.std.proofs.lemmas.List.{get_or_past}
use Rattle.std.proofs.lemmas.Bool.Decides.{nat_tests}
use mir.Syntax.{w32}
use mir.Val.{SFits}
use Rattle.std.proofs.lemmas.Int.{ints}
use Rattle.std.proofs.lemmas.List.FromFn.{get_or-range_with_len, length-range_with_len, get_or-map-range_with_len, length-map-range_with_len}
use Rattle.std.proofs.lemmas.List.Sums.{sum_by-cons, sum_by-le}
use Rattle.std.proofs.lemmas.Nat.{mul-le}
use Rattle.keylist.proofs.Tests.{and_first, and_second, not_true}
use Rattle.keylist.proofs.Counts.{find-place}
use Rattle.crush.specs.Paths as paths
use Rattle.maptypes.specs.Pools.{PoolFacts, IsWithinLimits}
use Rattle.osdmap.specs.Maps.{ClusterMap, pool_at, osd_exists, osd_is_up, HoldsTogether}
use Rattle.osdmap.specs.Mapped.{is_weightless}
use Rattle.osdmap.specs.Placement.{steps_of}
use Rattle.osdmap.proofs.Named.{below_max}
use Rattle.pgtable.specs.Index.{count_in}
use Rattle.balancer.specs.declared.group.Group.{Group}
use Rattle.balancer.specs.declared.moves.Move.{Move}
use Rattle.balancer.specs.Shares.{osds_of, is_candidate, candidate_osds, weight_in_map, total_weight, places, above_share, carried_by, deviation, group_weight, least_gap, least_gain, Aim, aim_of, AreSmall}
use Rattle.balancer.specs.Moves.{are_beside}
use Rattle.balancer.specs.Greedy.{after_moves}
use Rattle.balancer.specs.Boards.{IsBoardOf, IsReached, may_go}
use Rattle.balancer.proofs.UntouchedByMoves.{moves_stay, candidate_stays, total_stays, beside_stays, goes_stays}
use Rattle.balancer.proofs.GroupsOnOsds.{count_small}
use Rattle.balancer.proofs.WeightsOfCandidates.{few_filtered}

-- ---- candidates

module _ (m : ClusterMap) (p : PoolFacts) (osd : ℕ) where
  abbrev under : Bool
  under = paths.reaches m.buckets (steps_of m p) (pos osd)

  pub candidate_exists : is_candidate m p osd ≡ true → osd_exists m osd ≡ true
  unfolding is_candidate
  candidate_exists is =
      and_second under (osd_exists m osd) (and_first (under && osd_exists m osd) (osd_is_up m osd) (and_first (under && osd_exists m osd && osd_is_up m osd) (not (is_weightless m.weights osd)) is))

  pub candidate_up : is_candidate m p osd ≡ true → osd_is_up m osd ≡ true
  unfolding is_candidate
  candidate_up is = and_second (under && osd_exists m osd) (osd_is_up m osd) (and_first (under && osd_exists m osd && osd_is_up m osd) (not (is_weightless m.weights osd)) is)

  pub candidate_weighs : is_candidate m p osd ≡ true → is_weightless m.weights osd ≡ false
  unfolding is_candidate
  candidate_weighs is = not_true (is_weightless m.weights osd) (and_second (under && osd_exists m osd && osd_is_up m osd) (not (is_weightless m.weights osd)) is)

  pub candidate_below : is_candidate m p osd ≡ true → osd < length m.presences
  candidate_below is = let below = below_max m osd (length m.presences) (omega arith) (candidate_exists is) in grind (arith, nat_tests)

-- ---- the pool

-- a pool of a map is within its limits
pub pool_within : (m : ClusterMap) (p : PoolFacts) (id : ℕ) → HoldsTogether m → pool_at m.pools id ≡ Some p → IsWithinLimits p
pool_within m p id holds there =
    let at = find-place _ m.pools p there in
    subst IsWithinLimits at.2 (holds.pools.within at.0 p at.1)

-- ---- sums

-- a term whose place passes is within the sum of those that pass
term_within : {X : Type 0} (f : X → ℕ) (c : X → Bool) (xs : List X) (k : ℕ) (d : X) → k < length xs → c (get_or xs k d) ≡ true → f (get_or xs k d) ≤ sum_by f (filter c xs)
term_within f c [] k d inside passes = absurd (omega arith)
term_within f c (x ∷ xs) zero d inside passes = rw (passes, sum_by-cons f x (filter c xs)) (omega arith)
term_within f c (x ∷ xs) (suc k) d inside passes =
    let rest = term_within f c xs k d (omega arith) passes in
    elim (cases_Bool (c x)) [
      | inl here ↦ rw (here, sum_by-cons f x (filter c xs)) (omega (arith, rest))
      | inr other ↦ rw other rest
    ]

-- the weight of a candidate is at most that of all
pub weight_within : (m : ClusterMap) (p : PoolFacts) (osd : ℕ) → is_candidate m p osd ≡ true → weight_in_map m osd ≤ total_weight m p
unfolding total_weight
weight_within m p osd is =
    let below = candidate_below m p osd is in
    let at : get_or (osds_of m) osd 0 ≡ osd = get_or-range_with_len 0 (length m.presences) osd 0 below ∙ (omega arith) in
    let inside : osd < length (osds_of m) = omega (arith, length-range_with_len 0 (length m.presences)) in
    let passes : is_candidate m p (get_or (osds_of m) osd 0) ≡ true = rw at is in
    rw at at (term_within (weight_in_map m) (is_candidate m p) (osds_of m) osd 0 inside passes)

-- the candidates have at most 4,096 times 65,536 places
pub places_few : (m : ClusterMap) (p : PoolFacts) → HoldsTogether m → pool_at m.pools p.id ≡ Some p → places m p ≤ 4096 * 65536
unfolding places
places_few m p holds there =
    let within = pool_within m p p.id holds there in
    let each : All (λ osd. count_in m p.id osd ≤ 65536) (candidate_osds m p) = λ k d inside. omega (arith, count_small m p (get_or (candidate_osds m p) k d) holds there, within.groups_most) in
    let few = few_filtered (is_candidate m p) (length m.presences) 4096 holds.osds.few in
    omega (arith, sum_by-le (count_in m p.id) 65536 (candidate_osds m p) each, mul-le (length (candidate_osds m p)) 65536 4096 65536 few (omega arith))

-- ---- deviations

-- the difference of two products within the limits has at most 99 bits
between : (a b c d t n : ℕ) → a ≤ 65536 → t ≤ 2 ^ 60 → n ≤ 4096 * 65536 → b ≤ t → c ≡ a * t → d ≡ n * b → ((pos c -ℤ pos d) <ℤ pos (2 ^ 99)) × (neg_ℤ (pos (2 ^ 99)) <ℤ (pos c -ℤ pos d))
between a b c d t n few small most within is that =
    let high : a * t ≤ 65536 * 2 ^ 60 = mul-le a t 65536 (2 ^ 60) few small in
    let low : n * b ≤ 268435456 * 2 ^ 60 = mul-le n b 268435456 (2 ^ 60) most (omega arith) in
    (omega (arith, ints), omega (arith, ints))

-- so has what a candidate is above its share
above_small : (m : ClusterMap) (p : PoolFacts) (osd : ℕ) → HoldsTogether m → pool_at m.pools p.id ≡ Some p → total_weight m p ≤ 2 ^ 60 → is_candidate m p osd ≡ true
    → (above_share m p osd <ℤ pos (2 ^ 99)) × (neg_ℤ (pos (2 ^ 99)) <ℤ above_share m p osd)
unfolding above_share
above_small m p osd holds there small is =
    let within = pool_within m p p.id holds there in
    between (count_in m p.id osd) (weight_in_map m osd) (count_in m p.id osd * total_weight m p) (places m p * weight_in_map m osd) (total_weight m p) (places m p)
    (omega (arith, count_small m p osd holds there, within.groups_most)) small (places_few m p holds there) (weight_within m p osd is) refl refl

-- a number of 32 bits is small
pub word_small : (z : ℤ) → SFits w32 z → (z <ℤ pos (2 ^ 31)) × (neg_ℤ (pos (2 ^ 31)) ≤ℤ z)
word_small (pos n) fits = let few = fits.sfits in (omega (arith, ints), omega (arith, ints))
word_small (negsuc n) fits = let few = fits.sfits in (omega (arith, ints), omega (arith, ints))

-- what an OSD carries is small, whether a number is given for it or not
carried_small : (cs : List ℤ) (osd : ℕ) → AreSmall cs → (carried_by cs osd <ℤ pos (2 ^ 31)) × (neg_ℤ (pos (2 ^ 31)) ≤ℤ carried_by cs osd)
carried_small cs osd small = elim (cases_lt osd (length cs)) [
  | inl inside ↦ small osd (pos 0) inside
  | inr past ↦ rw (get_or_past cs osd (pos 0) past) (omega (arith, ints), omega (arith, ints))
]

-- a small number of times the weight of all candidates has at most 99 bits
pub times_small : (z : ℤ) (t : ℕ) → z <ℤ pos (2 ^ 31) → neg_ℤ (pos (2 ^ 31)) ≤ℤ z → t ≤ 2 ^ 60 → ((z *ℤ pos t) <ℤ pos (2 ^ 99)) × (neg_ℤ (pos (2 ^ 99)) <ℤ (z *ℤ pos t))
times_small (pos n) t high low small =
    let most : n * t ≤ 2 ^ 31 * 2 ^ 60 = mul-le n t (2 ^ 31) (2 ^ 60) (omega (arith, ints)) small in
    rw (pos-*ℤ-pos n t) (omega (arith, ints), omega (arith, ints))
times_small (negsuc n) t high low small =
    let most : suc n * t ≤ 2 ^ 31 * 2 ^ 60 = mul-le (suc n) t (2 ^ 31) (2 ^ 60) (omega (arith, ints)) small in
    rw (negsuc-*ℤ-pos n t) (omega (arith, ints), omega (arith, ints))

-- 256 times a number of 99 bits has at most 107
pub parts_small : (x : ℤ) → x <ℤ pos (2 ^ 99) → neg_ℤ (pos (2 ^ 99)) <ℤ x → ((pos 256 *ℤ x) <ℤ pos (2 ^ 107)) × (neg_ℤ (pos (2 ^ 107)) <ℤ (pos 256 *ℤ x))
parts_small x high low = (omega (arith, ints), omega (arith, ints))

-- the sum of two numbers of 107 and 99 bits has at most 108
pub sum_small : (x y : ℤ) → x <ℤ pos (2 ^ 107) → neg_ℤ (pos (2 ^ 107)) <ℤ x → y <ℤ pos (2 ^ 99) → neg_ℤ (pos (2 ^ 99)) <ℤ y → ((x +ℤ y) <ℤ pos (2 ^ 108)) × (neg_ℤ (pos (2 ^ 108)) <ℤ (x +ℤ y))
sum_small x y x_high x_low y_high y_low = (omega (arith, ints), omega (arith, ints))

-- so has the deviation of a candidate
pub deviation_small : (m : ClusterMap) (p : PoolFacts) (cs : Aim) (osd : ℕ) → HoldsTogether m → pool_at m.pools p.id ≡ Some p → total_weight m p ≤ 2 ^ 60 → AreSmall cs.carried → is_candidate m p osd ≡ true
    → (deviation m p cs osd <ℤ pos (2 ^ 108)) × (neg_ℤ (pos (2 ^ 108)) <ℤ deviation m p cs osd)
unfolding deviation
deviation_small m p cs osd holds there small few is =
    let above = above_small m p osd holds there small is in
    let groups = carried_small cs.carried osd few in
    let carried = times_small (carried_by cs.carried osd) (total_weight m p) groups.0 groups.1 small in
    let parts = parts_small (above_share m p osd) above.0 above.1 in
    sum_small (pos 256 *ℤ above_share m p osd) (carried_by cs.carried osd *ℤ pos (total_weight m p)) parts.0 parts.1 carried.0 carried.1

-- with no number given, an OSD is as far above its share as it is
pub none_carried : (m : ClusterMap) (p : PoolFacts) (apart osd : ℕ) → deviation m p (aim_of [] apart) osd ≡ pos 256 *ℤ above_share m p osd
unfolding deviation
none_carried m p apart osd = rw (pos-*ℤ-pos 0 (total_weight m p)) (omega (arith, ints))

-- ---- after some moves

module _ (m : ClusterMap) (p : PoolFacts) (moves : List Move) where
  abbrev now : ClusterMap
  now = after_moves m p moves

  pub pool_now : pool_at m.pools p.id ≡ Some p → pool_at now.pools p.id ≡ Some p
  pool_now there = ap (λ (n : ClusterMap). pool_at n.pools p.id) (moves_stay m p moves) ∙ there

  pub candidate_now : (osd : ℕ) → is_candidate now p osd ≡ is_candidate m p osd
  candidate_now osd = ap (λ n. is_candidate n p osd) (moves_stay m p moves) ∙ candidate_stays m now.items p osd

  pub total_now : total_weight now p ≡ total_weight m p
  total_now = ap (λ n. total_weight n p) (moves_stay m p moves) ∙ total_stays m now.items p

  pub group_weight_now : group_weight now p ≡ group_weight m p
  unfolding group_weight
  group_weight_now = ap (λ t. 256 * t) total_now

  pub beside_now : (some other : ℕ) → are_beside now p some other ≡ are_beside m p some other
  beside_now some other = ap (λ n. are_beside n p some other) (moves_stay m p moves) ∙ beside_stays m now.items p some other

  pub goes_now : (from to : ℕ) (g : Group) → may_go now p from to g ≡ may_go m p from to g
  goes_now from to g = ap (λ n. may_go n p from to g) (moves_stay m p moves) ∙ goes_stays m now.items p from to g

  pub long_now : length now.presences ≡ length m.presences
  long_now = ap (λ (n : ClusterMap). length n.presences) (moves_stay m p moves)

module _ (m : ClusterMap) (p : PoolFacts) (cs : Aim) (moves : List Move) where
  abbrev then : ClusterMap
  then = after_moves m p moves

  pub least_now : least_gap then p cs ≡ least_gap m p cs
  unfolding least_gap
  least_now = ap (λ t. cs.apart * t + 255) (total_now m p moves)

  pub gain_now : least_gain then p cs ≡ least_gain m p cs
  unfolding least_gain group_weight
  gain_now = ap (λ t. 2 * (256 * t) * (256 + (cs.apart - 256) * t)) (total_now m p moves)

  pub small_now : (osd : ℕ) → IsReached m p cs moves → pool_at m.pools p.id ≡ Some p → total_weight m p ≤ 2 ^ 60 → AreSmall cs.carried → is_candidate m p osd ≡ true
      → (deviation then p cs osd <ℤ pos (2 ^ 108)) × (neg_ℤ (pos (2 ^ 108)) <ℤ deviation then p cs osd)
  small_now osd reached there small few is = deviation_small then p cs osd reached.holds (pool_now m p moves there) (rw (total_now m p moves) small) few (candidate_now m p moves osd ∙ is)

  -- what is kept of an OSD
  pub shown_now : (gs : List Group) (ds : List ℤ) (osd : ℕ) (z : ℤ) → IsBoardOf then p cs gs ds → is_candidate m p osd ≡ true → z ≡ get_or ds osd z → z ≡ deviation then p cs osd
  shown_now gs ds osd z board is at =
      let below : osd < length then.presences = omega (arith, long_now m p moves, candidate_below m p osd is) in
      at ∙ ap (λ xs. get_or xs osd z) board.deviations ∙ get_or-map-range_with_len (deviation then p cs) 0 (length then.presences) osd osd z below (omega arith)

  pub long_deviations : (gs : List Group) (ds : List ℤ) → IsBoardOf then p cs gs ds → length ds ≡ length m.presences
  long_deviations gs ds board = ap length board.deviations ∙ length-map-range_with_len (deviation then p cs) 0 (length then.presences) ∙ long_now m p moves
