-- Which moves are allowed and good, by the tests that are made of a group.
use Rattle.std.proofs.Common.{◌≡◌, ◌≢◌, ◌∙◌, refl, sym, ap, ℕ, Bool, true, false, not, ◌&&◌, cond, eqb, ℤ, pos, List, [], ◌∷◌, length, Option, inl, inr, arith}
use mathlib.Core.Bool.{false≢true}
use Rattle.std.specs.Prelude.{int_lt, nat_lt, ◌-ℤ◌}
use Rattle.std.specs.List.{list_any, count_by}
use Rattle.std.proofs.lemmas.Bool.{cases_Bool, eqb-true, and_parts}
use Rattle.std.proofs.lemmas.Int.{ints}
use Rattle.std.proofs.lemmas.List.Sums.{sum_by-cons}
use Rattle.maptypes.specs.Pools.{PoolFacts}
use Rattle.osdmap.specs.Maps.{ClusterMap}
use Rattle.maptypes.specs.Sets.{is_of, stands}
use Rattle.osdmap.specs.Placement.{group_of, steps_of, mapped_set, up_set}
use Rattle.osdmap.proofs.StandingUp.{up_are_mapped_and_up}
use Rattle.balancer.specs.declared.moves.Move.{Move}
use Rattle.balancer.specs.Shares.{is_candidate, least_gap, deviation, Aim}
use Rattle.balancer.specs.Moves.{pairs_in, last_level, levels_of, are_beside, has_way, has_own_domain, does_replace, stands_on, has_room, is_allowed}
use Rattle.balancer.specs.Greedy.{gap, is_good}
use Rattle.balancer.specs.Boards.{is_fixed, group_at, may_go}
use Rattle.balancer.proofs.DeviationsSmall.{candidate_up, candidate_weighs}
use Rattle.balancer.proofs.MappedSetsMoved.{replaces}

-- what stands nowhere stands in no place
none_counted : {X : Type 0} (q : X → Bool) (xs : List X) → list_any q xs ≡ false → count_by q xs ≡ 0
none_counted q [] none = refl
none_counted q (x ∷ xs) none = elim (cases_Bool (q x)) [
  | inl here ↦ let wrong : true ≡ false = rw here at none in absurd (false≢true (sym wrong))
  | inr other ↦ let rest : list_any q xs ≡ false = rw other at none in sum_by-cons (λ y. cond (q y) 1 0) x xs ∙ rw (other, none_counted q xs rest) refl
]

-- what stands once stands somewhere
pub once_stands : {X : Type 0} (q : X → Bool) (xs : List X) → eqb (count_by q xs) 1 ≡ true → list_any q xs ≡ true
once_stands q xs once = elim (cases_Bool (list_any q xs)) [
  | inl some ↦ some
  | inr none ↦ let zero_counted = none_counted q xs none in let one_counted = eqb-true (count_by q xs) 1 once in absurd (omega arith)
]

-- the tests of an allowed move, in another order
tests_turn : (fixed there room beside way : Bool) → (true && true && (true && true) && (not fixed && not there) && room && beside && way) ≡ (beside && (not fixed && true && not there && room && way))
tests_turn fixed there room beside way = grind arith

-- where an OSD does not stand on the group's set, neither list of tests passes
tests_fail : (on replaces room beside way fixed there : Bool) → (true && true && (on && false) && replaces && room && beside && way) ≡ (beside && (not fixed && false && not there && room && way))
tests_fail on replaces room beside way fixed there = grind arith

module _ (m : ClusterMap) (p : PoolFacts) (v : Move) where
  abbrev set : List (Option ℕ)
  set = mapped_set m p v.group

  on_up : is_candidate m p v.from ≡ true → stands v.from (up_set m p v.group) ≡ stands v.from set
  on_up from = up_are_mapped_and_up m p v.group v.from ∙ rw (candidate_up m p v.from from) (and_true (stands v.from set))
    where
      and_true : (b : Bool) → (b && true) ≡ b
      and_true true = refl
      and_true false = refl

  pub allowed_is : is_candidate m p v.from ≡ true → is_candidate m p v.to ≡ true → v.from ≢ v.to
      → is_allowed m p v ≡ (are_beside m p v.from v.to && may_go m p v.from v.to (group_at m p v.group))
  unfolding is_allowed stands_on has_room has_own_domain may_go group_at
  allowed_is from to apart = elim (cases_Bool (eqb (count_by (is_of v.from) set) 1)) [
    | inl once ↦
        let on = once_stands (is_of v.from) set once in
        rw (from, to, on_up from, once, on, replaces m p v apart (candidate_weighs m p v.to to) on)
        (tests_turn (is_fixed m (group_of p v.group)) (stands v.to set) (nat_lt (length (pairs_in m (group_of p v.group))) p.size) (are_beside m p v.from v.to) (has_way m (last_level (levels_of (steps_of m p))) v.from v.to set))
    | inr other ↦
        rw (from, to, other)
        (tests_fail (stands v.from (up_set m p v.group)) (does_replace m p v) (nat_lt (length (pairs_in m (group_of p v.group))) p.size) (are_beside m p v.from v.to) (has_way m (last_level (levels_of (steps_of m p))) v.from v.to set) (is_fixed m (group_of p v.group)) (stands v.to set))
  ]

-- ---- good moves

module _ (m : ClusterMap) (p : PoolFacts) (cs : Aim) (v : Move) where
  -- a wide pair is of two OSDs
  pub apart_if : int_lt (pos (least_gap m p cs)) (gap m p cs v.from v.to) ≡ true → v.from ≢ v.to
  apart_if wide same = let level : deviation m p cs v.from ≡ deviation m p cs v.to = ap (deviation m p cs) same in narrow (least_gap m p cs) (deviation m p cs v.from) (deviation m p cs v.to) level wide
    where
      narrow : (t : ℕ) (x y : ℤ) → x ≡ y → int_lt (pos t) (x -ℤ y) ≡ true → ⊥
      narrow t x y e wide = grind (arith, ints)

  pub good_from : is_candidate m p v.from ≡ true → is_candidate m p v.to ≡ true → are_beside m p v.from v.to ≡ true → may_go m p v.from v.to (group_at m p v.group) ≡ true
      → int_lt (pos (least_gap m p cs)) (gap m p cs v.from v.to) ≡ true → is_good m p cs v ≡ true
  unfolding is_good
  good_from from to beside goes wide = rw (allowed_is m p v from to (apart_if wide), beside, goes, wide) refl

  pub good_wide : is_good m p cs v ≡ true → int_lt (pos (least_gap m p cs)) (gap m p cs v.from v.to) ≡ true
  unfolding is_good
  good_wide good = (and_parts (is_allowed m p v) (int_lt (pos (least_gap m p cs)) (gap m p cs v.from v.to)) good).1

  good_allowed : is_good m p cs v ≡ true → is_allowed m p v ≡ true
  unfolding is_good
  good_allowed good = (and_parts (is_allowed m p v) (int_lt (pos (least_gap m p cs)) (gap m p cs v.from v.to)) good).0

  abbrev ends : Bool
  ends = is_candidate m p v.from && is_candidate m p v.to

  ends_are : is_good m p cs v ≡ true → ends ≡ true
  unfolding is_allowed
  ends_are good =
      let a = good_allowed good in
      let b = (and_parts (ends && stands_on m p v && does_replace m p v && has_room m p v && are_beside m p v.from v.to) (has_own_domain m p v) a).0 in
      let c = (and_parts (ends && stands_on m p v && does_replace m p v && has_room m p v) (are_beside m p v.from v.to) b).0 in
      let d = (and_parts (ends && stands_on m p v && does_replace m p v) (has_room m p v) c).0 in
      let e = (and_parts (ends && stands_on m p v) (does_replace m p v) d).0 in
      (and_parts ends (stands_on m p v) e).0

  pub good_candidates : is_good m p cs v ≡ true → (is_candidate m p v.from ≡ true) × (is_candidate m p v.to ≡ true)
  good_candidates good = let both = and_parts (is_candidate m p v.from) (is_candidate m p v.to) (ends_are good) in (both.0, both.1)

  pub good_apart : is_good m p cs v ≡ true → v.from ≢ v.to
  good_apart good = apart_if (good_wide good)

  pub good_goes : is_good m p cs v ≡ true → (are_beside m p v.from v.to ≡ true) × (may_go m p v.from v.to (group_at m p v.group) ≡ true)
  good_goes good =
      let both = good_candidates good in
      let parts = and_parts (are_beside m p v.from v.to) (may_go m p v.from v.to (group_at m p v.group)) (sym (allowed_is m p v both.0 both.1 (good_apart good)) ∙ good_allowed good) in
      (parts.0, parts.1)
