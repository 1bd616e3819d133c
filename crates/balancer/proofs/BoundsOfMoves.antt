-- How far moves from an OSD go at most: what is known covers the moves from it, and what a move leaves of it.
use Rattle.std.proofs.Common.{◌⊎◌, ◌≡◌, ◌≢◌, ◌∙◌, refl, sym, ap, ℕ, ◌<◌, Bool, true, false, ◌&&◌, eqb, ℤ, pos, List, [], ◌∷◌, ◌++◌, length, get_or, set, replicate, Option, Some, None, inl, inr, arith, eq-eqb}
use mathlib.Core.Bool.{false≢true}
use lib.Signed.{le_z}
use Rattle.std.specs.Prelude.{◌||◌, ◌+ℤ◌, ◌-ℤ◌, int_lt, nat_lt, IfSome}
use Rattle.std.specs.Ordering.{int_eq}
use Rattle.std.specs.List.{Contains}
use Rattle.std.proofs.lemmas.Bool.{cases_Bool, cases_lt, false_from_ne_true, eqb-true, ne_eqb}
use Rattle.std.proofs.lemmas.Bool.Decides.{nat_tests}
use Rattle.std.proofs.lemmas.Int.{ints}
use Rattle.std.proofs.lemmas.List.{get_or-set_same, get_or-set_other, get_or_past, get_or-replicate, set_past, length-replicate}
use Rattle.std.proofs.lemmas.List.Elements.{All-contains}
use Rattle.maptypes.specs.Pools.{PoolFacts}
use Rattle.maptypes.specs.Sets.{is_of, stands}
use Rattle.osdmap.specs.Maps.{ClusterMap, pool_at}
use Rattle.balancer.specs.declared.moves.Move.{Move}
use Rattle.balancer.specs.Shares.{is_candidate, group_weight, least_gap, deviation, Aim}
use Rattle.balancer.specs.Moves.{move_of, after_move, pair_of_move}
use Rattle.std.specs.List.{count_by}
use Rattle.osdmap.specs.Placement.{mapped_set}
use Rattle.balancer.specs.Greedy.{gap, is_good, beats, after_moves}
use Rattle.balancer.specs.Boards.{IsGood, IsReached, CoversPair, CoversFrom, group_at, may_go}
use Rattle.balancer.specs.Widths.{bound_of, IsBound, AreBounds, best_gap}
use Rattle.balancer.proofs.DeviationsSmall.{pool_now, candidate_now, least_now, beside_now, goes_now}
use Rattle.balancer.proofs.AllowedByTests.{once_stands, good_candidates, good_wide, good_goes, good_from}
use Rattle.balancer.proofs.MarksHold.{stays_where_not}
use Rattle.balancer.proofs.MapAfterMove.{group_other, stands_once, mapped_gone}
use Rattle.balancer.proofs.CountsAfterMove.{replaced_to, deviation_from, deviation_to, deviation_other}
use Rattle.balancer.proofs.MovesMakeEven.{after_more}

-- ---- whole numbers

-- what is at most one that is at most another
pub z_most : (a b c : ℤ) → int_lt b a ≡ false → int_lt c b ≡ false → int_lt c a ≡ false
z_most a b c p q = grind (arith, ints)

-- a difference of a number that became no greater and one that became no less
z_gap : (a b x y : ℤ) → int_lt a x ≡ false → int_lt y b ≡ false → int_lt (a -ℤ b) (x -ℤ y) ≡ false
z_gap a b x y p q = grind (arith, ints)

-- what is above a number is above what is at most that
z_above : (t a b : ℤ) → int_lt t b ≡ true → int_lt a b ≡ false → int_lt t a ≡ true
z_above t a b p q = grind (arith, ints)

-- what is at most a number, by the test of the code
pub z_within : (a b : ℤ) → le_z a b ≡ true → int_lt b a ≡ false
z_within a b p = grind (arith, ints)

-- a number is not below itself
z_same : (a : ℤ) → int_lt a a ≡ false
z_same a = grind (arith, ints)

-- nor below itself less some
z_less : (a : ℤ) (t : ℕ) → int_lt a (a -ℤ pos t) ≡ false
z_less a t = grind (arith, ints)

-- nor above itself and some more
z_more : (a : ℤ) (t : ℕ) → int_lt (a +ℤ pos t) a ≡ false
z_more a t = grind (arith, ints)

-- ---- what is known covers the moves from an OSD

module _ (m : ClusterMap) (p : PoolFacts) (cs : Aim) where
  -- where no move is good so far, none from an OSD is, of which it is known that none goes far enough
  pub passed_none : (osds : List ℕ) (from : ℕ) (bound : ℤ) → IsBound m p cs from bound → int_lt (pos (least_gap m p cs)) bound ≡ false → CoversFrom m p cs None from osds
  passed_none osds from bound is low = λ k d inside. record {
    each = λ g below. false_from_ne_true _ (λ yes.
        absurd (false≢true (sym (z_most (gap m p cs from (get_or osds k d)) bound (pos (least_gap m p cs)) (is (get_or osds k d) g below yes) low) ∙ good_wide m p cs (move_of from (get_or osds k d) g) yes)));
  }

  -- the best move so far covers those from an OSD behind its own, of which it is known that none goes further
  pub passed_some : (osds : List ℕ) (from : ℕ) (bound : ℤ) (v : Move) → IsBound m p cs from bound → v.from < from → int_lt (gap m p cs v.from v.to) bound ≡ false → CoversFrom m p cs (Some v) from osds
  unfolding beats
  passed_some osds from bound v is behind low = λ k d inside. record {
    each = λ g below yes.
        let to = get_or osds k d in
        let no_less : nat_lt from v.from ≡ false = grind (arith, nat_tests) in
        let apart : eqb from v.from ≡ false = ne_eqb from v.from (λ e. omega (arith, e, behind)) in
        none_before (int_lt (gap m p cs v.from v.to) (gap m p cs from to)) (int_eq (gap m p cs from to) (gap m p cs v.from v.to)) (nat_lt from v.from) (eqb from v.from) _
        (z_most (gap m p cs from to) bound (gap m p cs v.from v.to) (is to g below yes) low) no_less apart;
  }
    where
      none_before : (a b c d e : Bool) → a ≡ false → c ≡ false → d ≡ false → (a || (b && (c || (d && e)))) ≡ false
      none_before a true c d e x y z = rw (x, y, z) refl
      none_before a false c d e x y z = rw x refl

  -- what is not better goes no further
  no_further : (u v : Move) → beats m p cs u v ≡ false → int_lt (gap m p cs v.from v.to) (gap m p cs u.from u.to) ≡ false
  unfolding beats
  no_further u v stays = first (int_lt (gap m p cs v.from v.to) (gap m p cs u.from u.to)) _ stays
    where
      first : (a b : Bool) → (a || b) ≡ false → a ≡ false
      first true b e = absurd (false≢true (sym e))
      first false b e = refl

  -- how far the best move so far goes is known of an OSD from which it covers all
  pub covered_bound : (osds : List ℕ) (from : ℕ) (best : Option Move) → ((to : ℕ) → is_candidate m p to ≡ true → Contains osds to) → CoversFrom m p cs best from osds → IsBound m p cs from (best_gap m p cs best)
  covered_bound osds from best in_osds covers to g below good = by_best best (All-contains (λ x. CoversPair m p cs best from x) osds to covers (in_osds to (good_candidates m p cs (move_of from to g) good).1))
    where
      by_best : (b : Option Move) → CoversPair m p cs b from to → int_lt (best_gap m p cs b) (gap m p cs from to) ≡ false
      by_best None pair = absurd (false≢true (sym (pair.each g below) ∙ good))
      by_best (Some v) pair = no_further (move_of from to g) v (pair.each g below good)

-- ---- what is known of each OSD

-- nothing is known at the beginning
pub none_bound : (m : ClusterMap) (p : PoolFacts) (cs : Aim) (n : ℕ) (bounds : List (Option ℤ)) → bounds ≡ replicate n None → AreBounds m p cs bounds
none_bound m p cs n bounds is = λ from bound known. absurd (let some = sym (blank from) ∙ rw is at known in cc)
  where
    blank : (k : ℕ) → bound_of (replicate n None) k ≡ None
    blank k = elim (cases_lt k n) [
      | inl inside ↦ get_or-replicate n k None None inside
      | inr past ↦ get_or_past (replicate n None) k None (omega (arith, length-replicate {A = Option ℤ} n None))
    ]

-- what is known once something is known of one OSD
pub one_more : (bounds : List (Option ℤ)) (osd : ℕ) (b : Option ℤ) (from : ℕ) (bound : ℤ) → bound_of (set bounds osd b) from ≡ Some bound → ((from ≡ osd) × (b ≡ Some bound)) ⊎ (bound_of bounds from ≡ Some bound)
one_more bounds osd b from bound known = elim (cases_Bool (eqb from osd)) [
  | inr other ↦ inr (rw (get_or-set_other bounds osd from b None (λ e. absurd (false≢true (sym other ∙ eq-eqb from osd e)))) at known)
  | inl here ↦ elim (cases_lt osd (length bounds)) [
    | inr past ↦ inr (rw (set_past bounds osd b past) at known)
    | inl inside ↦
        let is = eqb-true from osd here in
        inl (is, rw (is, get_or-set_same bounds osd b None inside) at known)
  ]
]

-- what is known of an OSD is a bound of it
pub known_bound : (m : ClusterMap) (p : PoolFacts) (cs : Aim) (bounds : List (Option ℤ)) (from : ℕ) (o : Option ℤ) → AreBounds m p cs bounds → o ≡ bound_of bounds from → IfSome o (λ b. IsBound m p cs from b)
known_bound m p cs bounds from None are is = tt
known_bound m p cs bounds from (Some b) are is = are from b (sym is)

-- a bound more, where it is one
pub bounds_more : (m : ClusterMap) (p : PoolFacts) (cs : Aim) (bounds : List (Option ℤ)) (osd : ℕ) (b : ℤ) → IsBound m p cs osd b → AreBounds m p cs bounds → AreBounds m p cs (set bounds osd (Some b))
bounds_more m p cs bounds osd b is are = λ from bound known. elim (one_more bounds osd (Some b) from bound known) [
  | inr before ↦ are from bound before
  | inl both ↦
      let same : b ≡ bound = let e = both.1 in cc in
      rw (both.0, sym same) is
]

-- ---- a move

module _ (m : ClusterMap) (p : PoolFacts) (cs : Aim) (moves : List Move) (v : Move) (good : IsGood (after_moves m p moves) p cs v) (reached : IsReached m p cs moves) (there : pool_at m.pools p.id ≡ Some p) where
  abbrev now : ClusterMap
  now = after_moves m p moves

  abbrev next : ClusterMap
  next = after_moves m p (moves ++ v ∷ [])

  abbrev there_now : pool_at now.pools p.id ≡ Some p
  there_now = pool_now m p moves there

  abbrev next_is : next ≡ after_move now p v
  next_is = after_more m p cs moves v good reached there

  -- only the OSD to which the group went is fuller
  no_fuller : (osd : ℕ) → osd ≢ v.to → int_lt (deviation now p cs osd) (deviation next p cs osd) ≡ false
  no_fuller osd apart = elim (cases_Bool (eqb osd v.from)) [
    | inl here ↦ rw (next_is, eqb-true osd v.from here, deviation_from now p cs v good reached.holds there_now) (z_less (deviation now p cs v.from) (group_weight now p))
    | inr other ↦ rw (next_is, deviation_other now p cs v good reached.holds there_now osd (λ e. absurd (false≢true (sym other ∙ eq-eqb osd v.from e))) apart) (z_same (deviation now p cs osd))
  ]

  -- only the OSD that it left is emptier
  no_emptier : (osd : ℕ) → osd ≢ v.from → int_lt (deviation next p cs osd) (deviation now p cs osd) ≡ false
  no_emptier osd apart = elim (cases_Bool (eqb osd v.to)) [
    | inl here ↦ rw (next_is, eqb-true osd v.to here, deviation_to now p cs v good reached.holds there_now) (z_more (deviation now p cs v.to) (group_weight now p))
    | inr other ↦ rw (next_is, deviation_other now p cs v good reached.holds there_now osd apart (λ e. absurd (false≢true (sym other ∙ eq-eqb osd v.to e)))) (z_same (deviation now p cs osd))
  ]

  -- so between others a move goes no further than before
  no_farther : (from to : ℕ) → from ≢ v.to → to ≢ v.from → int_lt (gap now p cs from to) (gap next p cs from to) ≡ false
  no_farther from to not_to not_from = z_gap (deviation now p cs from) (deviation now p cs to) (deviation next p cs from) (deviation next p cs to) (no_fuller from not_to) (no_emptier to not_from)

  -- and was good, where it is of another group
  was_good : (from to g : ℕ) → g ≢ v.group → from ≢ v.to → to ≢ v.from → is_good next p cs (move_of from to g) ≡ true → is_good now p cs (move_of from to g) ≡ true
  was_good from to g other not_to not_from is =
      let w = move_of from to g in
      let ends = good_candidates next p cs w is in
      let goes = good_goes next p cs w is in
      let group : group_at next p g ≡ group_at now p g = ap (λ n. group_at n p g) next_is ∙ group_other now p cs v good g other in
      let least : least_gap next p cs ≡ least_gap now p cs = least_now m p cs (moves ++ v ∷ []) ∙ sym (least_now m p cs moves) in
      good_from now p cs w
      (candidate_now m p moves from ∙ sym (candidate_now m p (moves ++ v ∷ []) from) ∙ ends.0)
      (candidate_now m p moves to ∙ sym (candidate_now m p (moves ++ v ∷ []) to) ∙ ends.1)
      (beside_now m p moves from to ∙ sym (beside_now m p (moves ++ v ∷ []) from to) ∙ goes.0)
      (goes_now m p moves from to (group_at now p g) ∙ sym (goes_now m p (moves ++ v ∷ []) from to (group_at now p g)) ∙ ap (may_go next p from to) (sym group) ∙ goes.1)
      (z_above (pos (least_gap now p cs)) (gap now p cs from to) (gap next p cs from to) (rw (sym least) (good_wide next p cs w is)) (no_farther from to not_to not_from))

  -- the group stands on the OSD to which it went
  to_stands : stands v.to (group_at next p v.group).places ≡ true
  unfolding group_at
  to_stands =
      let stood = once_stands (is_of v.from) (mapped_set now p v.group) (eq-eqb (count_by (is_of v.from) (mapped_set now p v.group)) 1 (stands_once now p cs v good)) in
      rw (next_is, mapped_gone now p cs v good) (replaced_to (pair_of_move v) (mapped_set now p v.group) stood)

  -- what is known of an OSD after a move: at least what was known before, and how far moves go to the OSD that is
  -- emptier, where some may go there; nothing of those on which the group stands
  pub bounds_moved : (before after : List (Option ℤ)) (shut : ℕ → Bool) → AreBounds now p cs before
      → ((from : ℕ) → shut from ≡ true → (g : ℕ) → g < p.pg_num → is_good next p cs (move_of from v.from g) ≡ false)
      → ((from : ℕ) (bound : ℤ) → bound_of after from ≡ Some bound
      → ((old : ℤ) × (bound_of before from ≡ Some old) × (int_lt bound old ≡ false))
      × (is_candidate m p from ≡ true → shut from ≡ false → int_lt bound (gap next p cs from v.from) ≡ false)
      × (stands from (group_at next p v.group).places ≡ false))
      → AreBounds next p cs after
  bounds_moved before after shut are none kept = λ from bound known to g below yes.
      let left = kept from bound known in
      let not_to : from ≢ v.to = λ e. absurd (false≢true (sym left.2 ∙ rw e to_stands)) in
      let from_is : is_candidate m p from ≡ true = sym (candidate_now m p (moves ++ v ∷ []) from) ∙ (good_candidates next p cs (move_of from to g) yes).0 in
      elim (cases_Bool (eqb g v.group)) [
        | inl here ↦
            let g_is = eqb-true g v.group here in
            let off : stands from (group_at next p g).places ≡ false = rw g_is left.2 in
            absurd (false≢true (sym (stays_where_not next p from to (group_at next p g) off) ∙ (good_goes next p cs (move_of from to g) yes).1))
        | inr other ↦ elim (cases_Bool (eqb to v.from)) [
          | inl emptier ↦
              let to_is = eqb-true to v.from emptier in
              elim (cases_Bool (shut from)) [
                | inl closed ↦
                    let yes_there : is_good next p cs (move_of from v.from g) ≡ true = rw to_is at yes in
                    absurd (false≢true (sym (none from closed g below) ∙ yes_there))
                | inr free ↦ rw to_is (left.1 from_is free)
              ]
          | inr else ↦
              let not_group : g ≢ v.group = λ e. absurd (false≢true (sym other ∙ eq-eqb g v.group e)) in
              let not_from : to ≢ v.from = λ e. absurd (false≢true (sym else ∙ eq-eqb to v.from e)) in
              let old = left.0 in
              let was = are from old.0 old.1 to g below (was_good from to g not_group not_to not_from yes) in
              z_most (gap next p cs from to) (gap now p cs from to) bound (no_farther from to not_to not_from) (z_most (gap now p cs from to) old.0 bound was old.2)
        ]
      ]
