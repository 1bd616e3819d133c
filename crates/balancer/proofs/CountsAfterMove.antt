-- What a good move makes of the counts and the deviations.
use Rattle.std.proofs.Common.{◌≡◌, ◌≢◌, ◌∙◌, refl, sym, ap, ℕ, zero, suc, ◌+◌, ◌*◌, ◌<◌, Bool, true, false, ◌||◌, cond, eqb, pos, List, [], ◌∷◌, length, get_or, set, Option, Some, None, inl, inr, arith, eq-eqb, ℤ}
use mathlib.Core.Bool.{false≢true}
use Rattle.std.specs.Prelude.{◌+ℤ◌, ◌-ℤ◌, ◌*ℤ◌}
use Rattle.std.specs.List.{Contains, list_any, count_by, sum_by, range_with_len}
use Rattle.std.proofs.lemmas.Bool.{cases_Bool, ne_eqb, eqb-true}
use Rattle.std.proofs.lemmas.Int.{ints}
use Rattle.std.proofs.lemmas.List.{get_or-set_same, get_or-set_other, length-set}
use Rattle.std.proofs.lemmas.List.FromFn.{fill_by_all, length-range_with_len, get_or-range_with_len, length-map-range_with_len, get_or-map-range_with_len}
use Rattle.std.proofs.lemmas.List.Sums.{sum_by-cons, sum_by-set}
use Rattle.keylist.specs.Order.{IsRising}
use Rattle.keylist.proofs.KeyedOrder.{rising_head, rising_tail, rising-filter}
use Rattle.maptypes.specs.declared.exception.Pair.{Pair}
use Rattle.maptypes.specs.Pools.{PoolFacts}
use Rattle.osdmap.specs.Maps.{ClusterMap, pool_at, osd_is_up, HoldsTogether}
use Rattle.maptypes.specs.Sets.{replace, is_of, stands}
use Rattle.osdmap.specs.Placement.{mapped_set}
use Rattle.pgtable.specs.Index.{count_in}
use Rattle.pgtable.specs.Tables.{sets_of}
use Rattle.balancer.specs.declared.moves.Move.{Move}
use Rattle.balancer.specs.Shares.{osds_of, is_candidate, candidate_osds, weight_in_map, total_weight, places, above_share, carried_by, deviation, group_weight, Aim}
use Rattle.balancer.specs.Moves.{pair_of_move, after_move}
use Rattle.balancer.specs.Boards.{IsGood}
use Rattle.balancer.proofs.GroupsOnOsds.{count_is}
use Rattle.balancer.proofs.MappedSetsMoved.{mapped_others}
use Rattle.balancer.proofs.DeviationsSmall.{candidate_up}
use Rattle.balancer.proofs.BestCovers.{candidate_in}
use Rattle.balancer.proofs.AllowedByTests.{good_candidates, good_apart, once_stands}
use Rattle.balancer.proofs.MapAfterMove.{mapped_gone, not_there, stands_once, holds_moved}

-- ---- who stands in a set where one OSD is replaced

-- a place has one OSD at most
is_of_same : (o : ℕ) (place : Option ℕ) (q : ℕ) → is_of q place ≡ true → o ≢ q → is_of o place ≡ false
is_of_same o None q is apart = refl
is_of_same o (Some x) q is apart = ne_eqb x o (λ e. apart (sym e ∙ eqb-true x q is))

-- replacing one OSD by another leaves where the others stand
replaced_other : (pair : Pair) (xs : List (Option ℕ)) (o : ℕ) → o ≢ pair.from → o ≢ pair.to → list_any (is_of o) (replace pair xs) ≡ list_any (is_of o) xs
unfolding replace
replaced_other pair [] o from to = refl
replaced_other pair (x ∷ xs) o from to = elim (cases_Bool (is_of pair.from x)) [
  | inl here ↦ rw (here, is_of_same o x pair.from here from, ne_eqb pair.to o (λ e. to (sym e))) refl
  | inr other ↦ rw (other, replaced_other pair xs o from to) refl
]

-- the one that comes stands there then
pub replaced_to : (pair : Pair) (xs : List (Option ℕ)) → list_any (is_of pair.from) xs ≡ true → list_any (is_of pair.to) (replace pair xs) ≡ true
unfolding replace
replaced_to pair [] there = absurd (false≢true there)
replaced_to pair (x ∷ xs) there = elim (cases_Bool (is_of pair.from x)) [
  | inl here ↦ rw (here, eq-eqb pair.to pair.to refl) refl
  | inr other ↦ let rest : list_any (is_of pair.from) xs ≡ true = rw other at there in rw (other, replaced_to pair xs rest) (or_true (is_of pair.to x))
]
  where
    or_true : (b : Bool) → (b || true) ≡ true
    or_true true = refl
    or_true false = refl

-- what is counted 0 times is nowhere
any_counted : {X : Type 0} (q : X → Bool) (xs : List X) → count_by q xs ≡ 0 → list_any q xs ≡ false
any_counted q [] none = refl
any_counted q (x ∷ xs) none = elim (cases_Bool (q x)) [
  | inl here ↦ let counted = sum_by-cons (λ y. cond (q y) 1 0) x xs in let one : ◌≡◌ {A = ℕ} (cond (q x) 1 0) 1 = rw here refl in absurd (omega arith)
  | inr other ↦ let counted = sum_by-cons (λ y. cond (q y) 1 0) x xs in let zero_here : ◌≡◌ {A = ℕ} (cond (q x) 1 0) 0 = rw other refl in rw (other, any_counted q xs (omega arith)) refl
]

-- the one that goes stands there no more, where it stood once
replaced_from : (pair : Pair) (xs : List (Option ℕ)) → pair.from ≢ pair.to → count_by (is_of pair.from) xs ≡ 1 → list_any (is_of pair.from) (replace pair xs) ≡ false
unfolding replace
replaced_from pair [] apart once = absurd (omega arith)
replaced_from pair (x ∷ xs) apart once = elim (cases_Bool (is_of pair.from x)) [
  | inl here ↦
      let counted = sum_by-cons (λ y. cond (is_of pair.from y) 1 0) x xs in
      let one : ◌≡◌ {A = ℕ} (cond (is_of pair.from x) 1 0) 1 = rw here refl in
      rw (here, ne_eqb pair.to pair.from (λ e. apart (sym e)), any_counted (is_of pair.from) xs (omega arith)) refl
  | inr other ↦
      let counted = sum_by-cons (λ y. cond (is_of pair.from y) 1 0) x xs in
      let zero_here : ◌≡◌ {A = ℕ} (cond (is_of pair.from x) 1 0) 0 = rw other refl in
      rw (other, replaced_from pair xs apart (omega arith), other) refl
]

-- ---- counts

module _ (m : ClusterMap) (p : PoolFacts) (cs : Aim) (v : Move) (good : IsGood m p cs v) (holds : HoldsTogether m) (there : pool_at m.pools p.id ≡ Some p) where
  abbrev old : List (Option ℕ)
  old = mapped_set m p v.group

  abbrev new : List (Option ℕ)
  new = replace (pair_of_move v) old

  sets_moved : sets_of (after_move m p v) p ≡ set (sets_of m p) v.group new
  sets_moved = sym (fill_by_all (mapped_set (after_move m p v) p) (set (sets_of m p) v.group new) p.pg_num [] (length-set (sets_of m p) v.group new ∙ length-map-range_with_len (mapped_set m p) 0 p.pg_num) each)
    where
      each : (k : ℕ) → k < p.pg_num → get_or (set (sets_of m p) v.group (replace (pair_of_move v) (mapped_set m p v.group))) k [] ≡ mapped_set (after_move m p v) p k
      each k below = elim (cases_Bool (eqb k v.group)) [
        | inl here ↦
            let same : k ≡ v.group = eqb-true k v.group here in
            let inside : v.group < length (sets_of m p) = omega (arith, good.there, length-map-range_with_len (mapped_set m p) 0 p.pg_num) in
            rw same (get_or-set_same (sets_of m p) v.group new [] inside ∙ sym (mapped_gone m p cs v good))
        | inr apart ↦
            let other : k ≢ v.group = λ e. absurd (false≢true (sym apart ∙ eq-eqb k v.group e)) in
            get_or-set_other (sets_of m p) v.group k new [] other ∙ get_or-map-range_with_len (mapped_set m p) 0 p.pg_num k k [] below (omega arith) ∙ sym (mapped_others m p v k other)
      ]

  counted_moved : (osd : ℕ) → count_by (stands osd) (sets_of (after_move m p v) p) + cond (stands osd old) 1 0 ≡ count_by (stands osd) (sets_of m p) + cond (stands osd new) 1 0
  counted_moved osd =
      let inside : v.group < length (sets_of m p) = omega (arith, good.there, length-map-range_with_len (mapped_set m p) 0 p.pg_num) in
      let at : get_or (sets_of m p) v.group [] ≡ old = get_or-map-range_with_len (mapped_set m p) 0 p.pg_num v.group v.group [] good.there (omega arith) in
      let sum = sum_by-set (λ s. cond (stands osd s) 1 0) (sets_of m p) v.group new [] inside in
      rw sets_moved (rw at at sum)

  up_moved : (osd : ℕ) → osd_is_up (after_move m p v) osd ≡ osd_is_up m osd
  unfolding after_move
  up_moved osd = refl

  there_moved : pool_at (after_move m p v).pools p.id ≡ Some p
  unfolding after_move
  there_moved = there

  count_moved : (osd : ℕ) → osd_is_up m osd ≡ true → count_in (after_move m p v) p.id osd + cond (stands osd old) 1 0 ≡ count_in m p.id osd + cond (stands osd new) 1 0
  count_moved osd up =
      let before : count_in m p.id osd ≡ count_by (stands osd) (sets_of m p) = count_is m p osd holds there ∙ rw up refl in
      let after : count_in (after_move m p v) p.id osd ≡ count_by (stands osd) (sets_of (after_move m p v) p) = count_is (after_move m p v) p osd (holds_moved m p cs v good holds there) there_moved ∙ rw (up_moved osd, up) refl in
      rw (before, after) (counted_moved osd)

  count_down : (osd : ℕ) → osd_is_up m osd ≡ false → count_in (after_move m p v) p.id osd ≡ count_in m p.id osd
  count_down osd down =
      let before : count_in m p.id osd ≡ 0 = count_is m p osd holds there ∙ rw down refl in
      let after : count_in (after_move m p v) p.id osd ≡ 0 = count_is (after_move m p v) p osd (holds_moved m p cs v good holds there) there_moved ∙ rw (up_moved osd, down) refl in
      after ∙ sym before

  pub count_from : count_in (after_move m p v) p.id v.from + 1 ≡ count_in m p.id v.from
  count_from =
      let counted = count_moved v.from (candidate_up m p v.from (good_candidates m p cs v good.good).0) in
      let was : stands v.from old ≡ true = once_stands (is_of v.from) old (eq-eqb (count_by (is_of v.from) old) 1 (stands_once m p cs v good)) in
      let is : stands v.from new ≡ false = replaced_from (pair_of_move v) old (good_apart m p cs v good.good) (stands_once m p cs v good) in
      omega (arith, rw (was, is) at counted)

  pub count_to : count_in (after_move m p v) p.id v.to ≡ count_in m p.id v.to + 1
  count_to =
      let counted = count_moved v.to (candidate_up m p v.to (good_candidates m p cs v good.good).1) in
      let was : stands v.to old ≡ false = not_there m p cs v good in
      let on : stands v.from old ≡ true = once_stands (is_of v.from) old (eq-eqb (count_by (is_of v.from) old) 1 (stands_once m p cs v good)) in
      let is : stands v.to new ≡ true = replaced_to (pair_of_move v) old on in
      omega (arith, rw (was, is) at counted)

  pub count_other : (osd : ℕ) → osd ≢ v.from → osd ≢ v.to → count_in (after_move m p v) p.id osd ≡ count_in m p.id osd
  count_other osd from to = elim (cases_Bool (osd_is_up m osd)) [
    | inl up ↦
        let counted = count_moved osd up in
        let same : stands osd new ≡ stands osd old = replaced_other (pair_of_move v) old osd from to in
        omega (arith, rw same at counted)
    | inr down ↦ count_down osd down
  ]

-- ---- sums over candidates

-- the first of a rising list is below all behind it
rising_at : (x : ℕ) (xs : List ℕ) → IsRising (λ n. n) (x ∷ xs) → (y : ℕ) → Contains xs y → x < y
rising_at x xs rises y (k, below, at) = rw at at (rising_head (λ (n : ℕ). n) x xs rises k y below)

-- a sum of terms of which two, in a list of numbers without doubles, are others
module _ (f g : ℕ → ℕ) where
  same_sum : (xs : List ℕ) → ((x : ℕ) → Contains xs x → g x ≡ f x) → sum_by g xs ≡ sum_by f xs
  same_sum [] same = refl
  same_sum (x ∷ xs) same =
      sum_by-cons g x xs ∙ ap (λ n. n + sum_by g xs) (same x (0, omega arith, refl)) ∙ ap (λ n. f x + n) (same_sum xs (λ y there. same y (suc there.0, omega (arith, there.1), there.2))) ∙ sym (sum_by-cons f x xs)

  -- one other term
  one_sum : (xs : List ℕ) (a : ℕ) → IsRising (λ n. n) xs → Contains xs a → ((x : ℕ) → x ≢ a → g x ≡ f x) → sum_by g xs + f a ≡ sum_by f xs + g a
  one_sum [] a rises there others = absurd (omega (arith, there.1))
  one_sum (x ∷ xs) a rises (zero, below, at) others =
      let rest : sum_by g xs ≡ sum_by f xs = same_sum xs (λ y inside. others y (λ e. omega (arith, at, e, rising_at x xs rises y inside))) in
      let here : ◌≡◌ {A = ℕ} x a = at in
      omega (arith, sum_by-cons g x xs, sum_by-cons f x xs, rest, ap f here, ap g here)
  one_sum (x ∷ xs) a rises (suc k, below, at) others =
      let inside : Contains xs a = (k, omega (arith, below), at) in
      let apart : x ≢ a = λ e. omega (arith, e, rising_at x xs rises a inside) in
      omega (arith, sum_by-cons g x xs, sum_by-cons f x xs, others x apart, one_sum xs a (rising_tail (λ (n : ℕ). n) x xs rises) inside others)

module _ (f g : ℕ → ℕ) (a b : ℕ) (xs : List ℕ) (rises : IsRising (λ n. n) xs) (a_in : Contains xs a) (b_in : Contains xs b) (apart : a ≢ b) (others : (x : ℕ) → x ≢ a → x ≢ b → g x ≡ f x) where
  -- the terms with the other one at the first place alone
  between : ℕ → ℕ
  between x = cond (eqb x a) (g x) (f x)

  between_a : between a ≡ g a
  unfolding between
  between_a = rw (eq-eqb a a refl) refl

  between_other : (x : ℕ) → x ≢ a → between x ≡ f x
  unfolding between
  between_other x other = rw (ne_eqb x a other) refl

  g_between : (x : ℕ) → x ≢ b → g x ≡ between x
  unfolding between
  g_between x other = elim (cases_Bool (eqb x a)) [
    | inl here ↦ rw here refl
    | inr there ↦ rw there (others x (λ e. absurd (false≢true (sym there ∙ eq-eqb x a e))) other)
  ]

  pub two_sum : sum_by g xs + (f a + f b) ≡ sum_by f xs + (g a + g b)
  two_sum =
      let first = one_sum f between xs a rises a_in between_other in
      let second = one_sum between g xs b rises b_in g_between in
      let at_b : between b ≡ f b = between_other b (λ e. apart (sym e)) in
      omega (arith, first, second, between_a, at_b)

-- the candidates rise
range_rises : (k n : ℕ) → IsRising (λ i. i) (range_with_len k n)
range_rises k n = λ i j d below inside.
    let long = length-range_with_len k n in
    let first = get_or-range_with_len k n i d (omega arith) in
    let second = get_or-range_with_len k n j d (omega arith) in
    omega (arith, first, second)

-- the candidates rise by number
pub candidates_rise : (m : ClusterMap) (p : PoolFacts) → IsRising (λ i. i) (candidate_osds m p)
candidates_rise m p = rising-filter (λ (i : ℕ). i) (is_candidate m p) (osds_of m) (range_rises 0 (length m.presences))

-- ---- the same pool after a good move

module _ (m : ClusterMap) (p : PoolFacts) (cs : Aim) (v : Move) (good : IsGood m p cs v) (holds : HoldsTogether m) (there : pool_at m.pools p.id ≡ Some p) where
  abbrev next_map : ClusterMap
  next_map = after_move m p v

  pub candidates_moved : candidate_osds next_map p ≡ candidate_osds m p
  unfolding is_candidate after_move
  candidates_moved = refl

  pub total_moved : total_weight next_map p ≡ total_weight m p
  unfolding total_weight is_candidate weight_in_map after_move
  total_moved = refl

  pub weight_moved : (osd : ℕ) → weight_in_map next_map osd ≡ weight_in_map m osd
  unfolding weight_in_map after_move
  weight_moved osd = refl

  pub from_in : Contains (candidate_osds m p) v.from
  from_in = candidate_in m p v.from (good_candidates m p cs v good.good).0

  pub to_in : Contains (candidate_osds m p) v.to
  to_in = candidate_in m p v.to (good_candidates m p cs v good.good).1

  pub places_moved : places next_map p ≡ places m p
  unfolding places
  places_moved =
      let sum = two_sum (count_in m p.id) (count_in next_map p.id) v.from v.to (candidate_osds m p) (candidates_rise m p) from_in to_in (good_apart m p cs v good.good) (count_other m p cs v good holds there) in
      ap (sum_by (count_in next_map p.id)) candidates_moved ∙ omega (arith, sum, count_from m p cs v good holds there, count_to m p cs v good holds there)

  above_from : above_share next_map p v.from ≡ above_share m p v.from -ℤ pos (total_weight m p)
  unfolding above_share
  above_from =
      rw (total_moved, places_moved, weight_moved v.from, sym (count_from m p cs v good holds there))
      (less (count_in next_map p.id v.from) (total_weight m p) (places m p * weight_in_map m v.from))
    where
      less : (c t w : ℕ) → (pos (c * t) -ℤ pos w) ≡ ((pos ((c + 1) * t) -ℤ pos w) -ℤ pos t)
      less c t w = omega (arith, ints)

  above_to : above_share next_map p v.to ≡ above_share m p v.to +ℤ pos (total_weight m p)
  unfolding above_share
  above_to =
      rw (total_moved, places_moved, weight_moved v.to, count_to m p cs v good holds there)
      (more (count_in m p.id v.to) (total_weight m p) (places m p * weight_in_map m v.to))
    where
      more : (c t w : ℕ) → (pos ((c + 1) * t) -ℤ pos w) ≡ ((pos (c * t) -ℤ pos w) +ℤ pos t)
      more c t w = omega (arith, ints)

  above_other : (osd : ℕ) → osd ≢ v.from → osd ≢ v.to → above_share next_map p osd ≡ above_share m p osd
  unfolding above_share
  above_other osd from to = rw (total_moved, places_moved, weight_moved osd, count_other m p cs v good holds there osd from to) refl

  pub deviation_from : deviation next_map p cs v.from ≡ deviation m p cs v.from -ℤ pos (group_weight m p)
  unfolding deviation group_weight
  deviation_from = rw (above_from, total_moved) (less (above_share m p v.from) (carried_by cs.carried v.from *ℤ pos (total_weight m p)) (total_weight m p))
    where
      less : (x y : ℤ) (t : ℕ) → (pos 256 *ℤ (x -ℤ pos t) +ℤ y) ≡ ((pos 256 *ℤ x +ℤ y) -ℤ pos (256 * t))
      less x y t = omega (arith, ints)

  pub deviation_to : deviation next_map p cs v.to ≡ deviation m p cs v.to +ℤ pos (group_weight m p)
  unfolding deviation group_weight
  deviation_to = rw (above_to, total_moved) (more (above_share m p v.to) (carried_by cs.carried v.to *ℤ pos (total_weight m p)) (total_weight m p))
    where
      more : (x y : ℤ) (t : ℕ) → (pos 256 *ℤ (x +ℤ pos t) +ℤ y) ≡ ((pos 256 *ℤ x +ℤ y) +ℤ pos (256 * t))
      more x y t = omega (arith, ints)

  pub deviation_other : (osd : ℕ) → osd ≢ v.from → osd ≢ v.to → deviation next_map p cs osd ≡ deviation m p cs osd
  unfolding deviation
  deviation_other osd from to = rw (above_other osd from to, total_moved) refl
