-- The search for the best move.
use Rattle.std.proofs.Common.{◌≡◌, ◌∙◌, ◌++◌, ◌∷◌, [], refl, sym, subst, All, map, set, ap, ℕ, ◌+◌, ◌<◌, ◌≤◌, Bool, true, false, ◌&&◌, ℤ, pos, List, length, get_or, take, position, Option, Some, None, inl, inr, eqb, arith}
use Rattle.std.specs.Prelude.{int_lt, nat_lt, ◌||◌, ◌-ℤ◌, IfSome}
use Rattle.std.specs.Ordering.{int_eq, int_cmp, ordering_then}
use Rattle.std.proofs.Common.{Ordering, nat_cmp, is_lt, is_eq, cond, Less, Greater, Equal, zero, suc, ◌-◌}
use Rattle.std.specs.List.Sorted.{IsPermutation}
use Rattle.std.proofs.lemmas.Bool.{false_from_ne_true, eqb-true, and_parts, and_from, cases_Bool, cases_lt}
use Rattle.std.proofs.lemmas.Int.{ints}
use mathlib.Core.Bool.{false≢true}
use Rattle.std.proofs.lemmas.List.FromFn.{length-map-range_with_len, get_or-map-range_with_len}
use Rattle.std.proofs.lemmas.List.{take_all, take_more, map_push, get_or_default, get_or-map, get_or-set_other, get_or-set_same, length-map, get_or-take, length-take-le}
use Rattle.std.proofs.lemmas.List.Sorted.{All-permutation, IsPermutation-map, IsPermutation-refl, IsPermutation-sym, IsPermutation-trans}
use Rattle.std.proofs.lemmas.List.Elements.{filter_passes, All-map, All-weaker, All-more}
use Rattle.std.proofs.lemmas.List.Quantifiers.{position-Some}
use Rattle.std.proofs.lemmas.Bool.Decides.{nat_tests}
use Rattle.maptypes.specs.Pools.{PoolFacts}
use Rattle.osdmap.specs.Maps.{ClusterMap}
use Rattle.balancer.specs.declared.group.Group.{Group}
use Rattle.balancer.specs.declared.moves.Move.{Move}
use Rattle.balancer.specs.Shares.{osds_of, is_candidate, candidate_osds, least_gap, deviation, Aim}
use Rattle.balancer.specs.Moves.{move_of, are_beside}
use Rattle.balancer.specs.Greedy.{gap, is_good, precedes, beats, after_moves}
use Rattle.balancer.specs.Boards.{IsGood, IsBoardOf, IsCovered, IsBetter, IsOrder, CoversPair, CoversFrom, CoversAll, is_wanted, may_go, group_at}
use Rattle.balancer.specs.Marks.{NoneGoes}
use Rattle.balancer.proofs.DeviationsSmall.{candidate_now, beside_now, goes_now}
use Rattle.balancer.proofs.AllowedByTests.{apart_if, good_candidates, good_wide, good_from, good_goes}
use Rattle.balancer.proofs.MovesCompare.{beats_trans, beats_equal, beats_less, higher_not_better, lowest_not_better, between_pair}

module _ (m : ClusterMap) (p : PoolFacts) (cs : Aim) (moves : List Move) where
  -- a good move goes between candidates
  pub good_ends : (v : Move) → IsGood (after_moves m p moves) p cs v → (is_candidate m p v.from ≡ true) × (is_candidate m p v.to ≡ true)
  good_ends v good =
      let both = good_candidates (after_moves m p moves) p cs v good.good in
      (sym (candidate_now m p moves v.from) ∙ both.0, sym (candidate_now m p moves v.to) ∙ both.1)

  -- what some good move is
  pub best_ends : (best : Option Move) (v : Move) → IfSome best (λ b. IsGood (after_moves m p moves) p cs b) → best ≡ Some v → (is_candidate m p v.from ≡ true) × (is_candidate m p v.to ≡ true)
  best_ends best v good is = good_ends v (rw is at good)

-- a board has each group of the pool
pub long_groups : (m : ClusterMap) (p : PoolFacts) (cs : Aim) (gs : List Group) (ds : List ℤ) → IsBoardOf m p cs gs ds → length gs ≡ p.pg_num
long_groups m p cs gs ds board = ap length board.groups ∙ length-map-range_with_len (group_at m p) 0 p.pg_num

-- ---- one pair of OSDs

module _ (m : ClusterMap) (p : PoolFacts) (cs : Aim) where
  -- what is not good is covered
  covered_no : (best : Option Move) (v : Move) → is_good m p cs v ≡ false → IsCovered m p cs best v
  covered_no None v bad = bad
  covered_no (Some b) v bad = λ yes. absurd (false≢true (sym bad ∙ yes))

  pub same_best : (best : Option Move) → IfSome best (λ v. IsGood m p cs v) → IsBetter m p cs best best
  same_best best good = record { good = good; keeps = λ v is. is }

  -- what is not wanted is covered
  pub unwanted : (from to : ℕ) (best : Option Move) → is_wanted m p cs from to best ≡ false → CoversPair m p cs best from to
  unwanted from to None narrow = record { each = λ g below. false_from_ne_true _ (λ yes. absurd (false≢true (sym narrow ∙ good_wide m p cs (move_of from to g) yes))) }
  unwanted from to (Some b) low = record {
    each = λ g below yes.
        let wide = good_wide m p cs (move_of from to g) yes in
        let not_lowest : beats m p cs (move_of from to 0) b ≡ false = rw wide at low in
        lowest_not_better m p cs from to g b not_lowest;
  }

  wanted_wide : (from to : ℕ) (best : Option Move) → is_wanted m p cs from to best ≡ true → int_lt (pos (least_gap m p cs)) (gap m p cs from to) ≡ true
  wanted_wide from to None wanted = wanted
  wanted_wide from to (Some b) wanted = (and_parts (int_lt (pos (least_gap m p cs)) (gap m p cs from to)) (beats m p cs (move_of from to 0) b) wanted).0

  -- what is wanted is between two OSDs
  pub wanted_apart : (from to : ℕ) (best : Option Move) → is_wanted m p cs from to best ≡ true → eqb to from ≡ false
  wanted_apart from to best wanted = false_from_ne_true _ (λ yes. apart_if m p cs (move_of from to 0) (wanted_wide from to best wanted) (sym (eqb-true to from yes)))

  -- what does not go is covered
  covered_none : (from to : ℕ) (best : Option Move) → ((g : ℕ) → g < p.pg_num → is_good m p cs (move_of from to g) ≡ false) → CoversPair m p cs best from to
  covered_none from to best none = record { each = λ g below. covered_no best (move_of from to g) (none g below) }

  -- the first group that goes, where some move of the pair could be taken
  taken : (from to k : ℕ) (best : Option Move) → IfSome best (λ v. IsGood m p cs v) → is_wanted m p cs from to best ≡ true → IsGood m p cs (move_of from to k)
      → ((g : ℕ) → g < k → is_good m p cs (move_of from to g) ≡ false) → IsBetter m p cs best (Some (move_of from to k))
  taken from to k None good wanted is first = record { good = is; keeps = λ v none yes. absurd (false≢true (sym none ∙ yes)) }
  taken from to k (Some b) good wanted is first = record { good = is; keeps = λ v covered yes. not_better v (covered yes) (beats m p cs (move_of from to k) b) refl (beats m p cs b (move_of from to k)) refl }
    where
      new : Move
      new = move_of from to k

      lowest : beats m p cs (move_of from to 0) b ≡ true
      lowest = (and_parts (int_lt (pos (least_gap m p cs)) (gap m p cs from to)) (beats m p cs (move_of from to 0) b) wanted).1

      not_better : (v : Move) → beats m p cs v b ≡ false → (x : Bool) → beats m p cs (move_of from to k) b ≡ x → (y : Bool) → beats m p cs b (move_of from to k) ≡ y → beats m p cs v (move_of from to k) ≡ false
      not_better v not_b true above y below = beats_less m p cs v b (move_of from to k) not_b above
      not_better v not_b false above true below =
          let same = between_pair m p cs from to 0 k b lowest below in
          let here : move_of from to b.group ≡ b = λ i. record { group = b.group; from = sym same.0 i; to = sym same.1 i } in
          let yes : is_good m p cs (move_of from to b.group) ≡ true = rw here good.good in
          let beaten : beats m p cs (move_of from to b.group) (move_of from to k) ≡ true = rw here below in
          elim (cases_lt b.group k) [
            | inl under ↦ absurd (false≢true (sym (first b.group under) ∙ yes))
            | inr over ↦ absurd (false≢true (sym (higher_not_better m p cs from to b.group k over) ∙ beaten))
          ]
      not_better v not_b false above false below =
          let equal = beats_equal m p cs (move_of from to k) b above below in
          rw equal not_b

  -- the first group that goes covers the pair
  covers_taken : (from to k : ℕ) → ((g : ℕ) → g < k → is_good m p cs (move_of from to g) ≡ false) → CoversPair m p cs (Some (move_of from to k)) from to
  covers_taken from to k first = record {
    each = λ g below yes. elim (cases_lt g k) [
      | inl under ↦ absurd (false≢true (sym (first g under) ∙ yes))
      | inr over ↦ higher_not_better m p cs from to g k over
    ];
  }

  -- where a group does not go, its move is not good
  stays_bad : (from to g : ℕ) → may_go m p from to (group_at m p g) ≡ false → is_good m p cs (move_of from to g) ≡ false
  stays_bad from to g stays = false_from_ne_true _ (λ yes. absurd (false≢true (sym stays ∙ (good_goes m p cs (move_of from to g) yes).1)))

  apart_bad : (from to g : ℕ) → are_beside m p from to ≡ false → is_good m p cs (move_of from to g) ≡ false
  apart_bad from to g apart = false_from_ne_true _ (λ yes. absurd (false≢true (sym apart ∙ (good_goes m p cs (move_of from to g) yes).0)))

module _ (m : ClusterMap) (p : PoolFacts) (cs : Aim) (moves : List Move) (gs : List Group) (ds : List ℤ) (board : IsBoardOf (after_moves m p moves) p cs gs ds) where
  abbrev later : ClusterMap
  later = after_moves m p moves

  pub group_kept : (g : ℕ) (d : Group) → g < p.pg_num → get_or gs g d ≡ group_at later p g
  group_kept g d below = ap (λ xs. get_or xs g d) board.groups ∙ get_or-map-range_with_len (group_at later p) 0 p.pg_num g g d below (omega arith)

  -- the group found goes, and none before it
  goes_first : (from to k : ℕ) → position (may_go m p from to) gs ≡ Some k
      → (k < p.pg_num) × (may_go later p from to (group_at later p k) ≡ true) × ((g : ℕ) → g < k → may_go later p from to (group_at later p g) ≡ false)
  goes_first from to k found =
      let d = group_at later p 0 in
      let at = position-Some (may_go m p from to) gs k d found in
      let inside : k < p.pg_num = omega (arith, at.0, long_groups later p cs gs ds board) in (
        inside,
        goes_now m p moves from to (group_at later p k) ∙ ap (may_go m p from to) (sym (group_kept k d inside)) ∙ at.1,
        λ g below. goes_now m p moves from to (group_at later p g) ∙ ap (may_go m p from to) (sym (group_kept g d (omega (arith, inside)))) ∙ at.2 g below,
      )

  -- where none may go, none goes
  goes_none : (from to : ℕ) → NoneGoes m p gs from to → (g : ℕ) → g < p.pg_num → may_go later p from to (group_at later p g) ≡ false
  goes_none from to none g below =
      let d = group_at later p 0 in
      goes_now m p moves from to (group_at later p g) ∙ ap (may_go m p from to) (sym (group_kept g d below))
      ∙ none g d (omega (arith, below, long_groups later p cs gs ds board))

  -- the tests of the search, and what it takes by them
  found_good : (from to k : ℕ) (best : Option Move) → is_candidate m p from ≡ true → is_candidate m p to ≡ true → is_wanted later p cs from to best ≡ true → are_beside m p from to ≡ true
      → position (may_go m p from to) gs ≡ Some k → IsGood later p cs (move_of from to k)
  found_good from to k best from_is to_is wanted beside found =
      let at = goes_first from to k found in
      record {
        good = good_from later p cs (move_of from to k) (candidate_now m p moves from ∙ from_is) (candidate_now m p moves to ∙ to_is) (beside_now m p moves from to ∙ beside) at.1 (wanted_wide later p cs from to best wanted);
        there = at.0;
      }

  first_bad : (from to k : ℕ) → position (may_go m p from to) gs ≡ Some k → (g : ℕ) → g < k → is_good later p cs (move_of from to g) ≡ false
  first_bad from to k found g below = stays_bad later p cs from to g ((goes_first from to k found).2 g below)

  pub found_better : (from to k : ℕ) (best : Option Move) → IfSome best (λ v. IsGood later p cs v) → is_candidate m p from ≡ true → is_candidate m p to ≡ true → is_wanted later p cs from to best ≡ true
      → are_beside m p from to ≡ true → position (may_go m p from to) gs ≡ Some k → IsBetter later p cs best (Some (move_of from to k))
  found_better from to k best good from_is to_is wanted beside found =
      taken later p cs from to k best good wanted (found_good from to k best from_is to_is wanted beside found) (first_bad from to k found)

  pub found_covers : (from to k : ℕ) → position (may_go m p from to) gs ≡ Some k → CoversPair later p cs (Some (move_of from to k)) from to
  found_covers from to k found = covers_taken later p cs from to k (first_bad from to k found)

  pub none_covers : (from to : ℕ) (best : Option Move) → NoneGoes m p gs from to → CoversPair later p cs best from to
  none_covers from to best none = covered_none later p cs from to best (λ g below. stays_bad later p cs from to g (goes_none from to none g below))

  pub apart_covers : (from to : ℕ) (best : Option Move) → are_beside m p from to ≡ false → CoversPair later p cs best from to
  apart_covers from to best apart = covered_none later p cs from to best (λ g below. apart_bad later p cs from to g (beside_now m p moves from to ∙ apart))

-- ---- all pairs

-- each of the candidates is one
pub candidate_at : (m : ClusterMap) (p : PoolFacts) (osds : List ℕ) (i : ℕ) → osds ≡ candidate_osds m p → i < length osds → is_candidate m p (get_or osds i 0) ≡ true
candidate_at m p osds i is inside = rw is (filter_passes (is_candidate m p) (osds_of m) i 0 (rw is at inside))

module _ (m : ClusterMap) (p : PoolFacts) (cs : Aim) where
  pub better_yet : (old mid new : Option Move) → IsBetter m p cs old mid → IsBetter m p cs mid new → IsBetter m p cs old new
  better_yet old mid new first second = record { good = second.good; keeps = λ v is. second.keeps v (first.keeps v is) }

  pair_kept : (old new : Option Move) (from to : ℕ) → IsBetter m p cs old new → CoversPair m p cs old from to → CoversPair m p cs new from to
  pair_kept old new from to better covers = record { each = λ g below. better.keeps (move_of from to g) (covers.each g below) }

  pub from_kept : (old new : Option Move) (from : ℕ) (tos : List ℕ) → IsBetter m p cs old new → CoversFrom m p cs old from tos → CoversFrom m p cs new from tos
  from_kept old new from tos better covers = All-weaker (CoversPair m p cs old from) (CoversPair m p cs new from) (λ to is. pair_kept old new from to better is) tos covers

  -- one OSD more
  pub from_more : (old new : Option Move) (from : ℕ) (tos : List ℕ) (i : ℕ) → i < length tos → IsBetter m p cs old new → CoversFrom m p cs old from (take i tos)
      → CoversPair m p cs new from (get_or tos i 0) → CoversFrom m p cs new from (take (i + 1) tos)
  from_more old new from tos i inside better before here =
      All-more (CoversPair m p cs new from) tos i 0 inside (from_kept old new from (take i tos) better before) here

  pub all_more_from : (old new : Option Move) (froms tos : List ℕ) (i : ℕ) → i < length froms → IsBetter m p cs old new → CoversAll m p cs old (take i froms) tos
      → CoversFrom m p cs new (get_or froms i 0) tos → CoversAll m p cs new (take (i + 1) froms) tos
  all_more_from old new froms tos i inside better before here =
      All-more (λ from. CoversFrom m p cs new from tos) froms i 0 inside
      (All-weaker (λ from. CoversFrom m p cs old from tos) (λ from. CoversFrom m p cs new from tos) (λ from is. from_kept old new from tos better is) (take i froms) before) here

  pub from_end : (best : Option Move) (from : ℕ) (tos : List ℕ) (i : ℕ) → length tos ≤ i → CoversFrom m p cs best from (take i tos) → CoversFrom m p cs best from tos
  from_end best from tos i past covers = rw (take_all i tos past) at covers

  pub all_end : (best : Option Move) (froms tos : List ℕ) (i : ℕ) → length froms ≤ i → CoversAll m p cs best (take i froms) tos → CoversAll m p cs best froms tos
  all_end best froms tos i past covers = rw (take_all i froms past) at covers

-- ---- the emptiest first

-- a move to an OSD that is not emptier is no wider, and taken rather than another only where one to the other OSD is
wider : (m : ClusterMap) (p : PoolFacts) (cs : Aim) (from to osd : ℕ) → beats m p cs (move_of from to 0) (move_of from osd 0) ≡ false → int_lt (pos (least_gap m p cs)) (gap m p cs from to) ≡ true → int_lt (pos (least_gap m p cs)) (gap m p cs from osd) ≡ true
unfolding beats
wider m p cs from to osd less wide =
    let not_less = or_first (int_lt (gap m p cs from osd) (gap m p cs from to)) _ less in
    through (pos (least_gap m p cs)) (gap m p cs from to) (gap m p cs from osd) not_less wide
  where
    or_first : (a b : Bool) → (a || b) ≡ false → a ≡ false
    or_first true b e = e
    or_first false b e = refl

    through : (x y z : ℤ) → int_lt z y ≡ false → int_lt x y ≡ true → int_lt x z ≡ true
    through x y z p q = grind (arith, ints)

-- a move that is better than the best so far is so to the emptiest OSD too
rather_than : (m : ClusterMap) (p : PoolFacts) (cs : Aim) (from to osd : ℕ) (b : Move) → beats m p cs (move_of from to 0) (move_of from osd 0) ≡ false → beats m p cs (move_of from to 0) b ≡ true → beats m p cs (move_of from osd 0) b ≡ true
rather_than m p cs from to osd b less taken_is = elim (cases_Bool (beats m p cs (move_of from osd 0) (move_of from to 0))) [
  | inl better ↦ beats_trans m p cs (move_of from osd 0) (move_of from to 0) b better taken_is
  | inr alike ↦
      let same = beats_equal m p cs (move_of from osd 0) (move_of from to 0) alike less in
      rw same taken_is
]

-- each of the candidates in any order is one
pub each_candidate : (m : ClusterMap) (p : PoolFacts) (order : List (ℤ × ℕ)) → IsPermutation (map (λ e. e.1) order) (candidate_osds m p) → (k : ℕ) (d : ℤ × ℕ) → k < length order
    → is_candidate m p (get_or order k d).1 ≡ true
each_candidate m p order all k d inside =
    let one : All (λ osd. is_candidate m p osd ≡ true) (candidate_osds m p) =
    λ i e below. subst (λ x. is_candidate m p x ≡ true) (get_or_default (candidate_osds m p) i 0 e below) (candidate_at m p (candidate_osds m p) i refl below) in
    let each = All-permutation (λ osd. is_candidate m p osd ≡ true) (candidate_osds m p) (map (λ (e : ℤ × ℕ). e.1) order) (IsPermutation-sym (map (λ (e : ℤ × ℕ). e.1) order) (candidate_osds m p) all) one in
    subst (λ x. is_candidate m p x ≡ true) (get_or-map (λ (e : ℤ × ℕ). e.1) order k d 0 inside) (each k 0 (omega (arith, inside, length-map order (λ (e : ℤ × ℕ). e.1))))

-- one OSD more
pub listed_more : (osds : List ℕ) (order next : List (ℤ × ℕ)) (i : ℕ) (d : ℤ) → i < length osds → map (λ (e : ℤ × ℕ). e.1) order ≡ take i osds → next ≡ order ++ (d, get_or osds i 0) ∷ []
    → map (λ (e : ℤ × ℕ). e.1) next ≡ take (i + 1) osds
listed_more osds order next i d inside is put =
    ap (map (λ (e : ℤ × ℕ). e.1)) put ∙ map_push (λ (e : ℤ × ℕ). e.1) order (d, get_or osds i 0) ∙ ap (λ xs. xs ++ get_or osds i 0 ∷ []) is ∙ sym (take_more osds i 0 inside)

-- all of them
pub listed_all : (m : ClusterMap) (p : PoolFacts) (osds : List ℕ) (order : List (ℤ × ℕ)) (i : ℕ) → osds ≡ candidate_osds m p → map (λ (e : ℤ × ℕ). e.1) order ≡ take i osds → length osds ≤ i
    → IsPermutation (map (λ e. e.1) order) (candidate_osds m p)
listed_all m p osds order i are is past =
    subst (λ xs. IsPermutation (map (λ (e : ℤ × ℕ). e.1) order) xs) (is ∙ take_all i osds past ∙ are) (IsPermutation-refl (map (λ (e : ℤ × ℕ). e.1) order))

-- one entry with another deviation is of the same OSD
pub same_osds : (order : List (ℤ × ℕ)) (k : ℕ) (e : ℤ × ℕ) → e.1 ≡ (get_or order k e).1 → map (λ (f : ℤ × ℕ). f.1) (set order k e) ≡ map (λ (f : ℤ × ℕ). f.1) order
same_osds [] k e is = refl
same_osds (f ∷ order) zero e is = ap (λ x. x ∷ map (λ (g : ℤ × ℕ). g.1) order) is
same_osds (f ∷ order) (suc k) e is = ap (λ xs. f.1 ∷ xs) (same_osds order k e is)

-- where one of two pairs is not less, its number is not, and where the numbers are alike its second is not
no_less : (d e : ℤ) (b a : ℕ) → is_lt (ordering_then (int_cmp d e) (nat_cmp b a)) ≡ false → (int_lt d e ≡ false) × (int_eq d e ≡ true → nat_lt b a ≡ false)
no_less d e b a is =
    let parts = by (int_lt d e) (int_lt e d) (nat_cmp b a) is in
    (parts.0, λ alike. less b a (parts.1 alike))
  where
    by : (l g : Bool) (o : Ordering) → is_lt (ordering_then (cond l Less (cond g Greater Equal)) o) ≡ false → (l ≡ false) × (is_eq (cond l Less (cond g Greater Equal)) ≡ true → is_lt o ≡ false)
    by true g o e = absurd (false≢true (sym e))
    by false true o e = (refl, λ x. absurd (false≢true x))
    by false false o e = (refl, λ x. e)

    less : (b a : ℕ) → is_lt (nat_cmp b a) ≡ false → nat_lt b a ≡ false
    less b a e = grind (arith, nat_tests)

module _ (n : ClusterMap) (p : PoolFacts) (cs : Aim) where
  -- to an OSD of a greater deviation, or of the same and a higher number, no move would rather go
  fuller : (from a b : ℕ) → int_lt (deviation n p cs b) (deviation n p cs a) ≡ false → (int_eq (deviation n p cs b) (deviation n p cs a) ≡ true → nat_lt b a ≡ false) → beats n p cs (move_of from b 0) (move_of from a 0) ≡ false
  unfolding beats
  fuller from a b more alike =
      let x = deviation n p cs from in
      let less : int_lt (gap n p cs from a) (gap n p cs from b) ≡ false = shift x (deviation n p cs a) (deviation n p cs b) more in
      let from_less : nat_lt from from ≡ false = grind (arith, nat_tests) in
      elim (cases_Bool (int_eq (gap n p cs from b) (gap n p cs from a))) [
        | inl same ↦
            let number : nat_lt b a ≡ false = alike (back x (deviation n p cs a) (deviation n p cs b) same) in
            none_left (int_lt (gap n p cs from a) (gap n p cs from b)) (int_eq (gap n p cs from b) (gap n p cs from a)) (nat_lt from from) (eqb from from) (nat_lt b a) (eqb b a) less from_less number
        | inr other ↦ fail_second (int_lt (gap n p cs from a) (gap n p cs from b)) (int_eq (gap n p cs from b) (gap n p cs from a)) (precedes (move_of from b 0) (move_of from a 0)) less other
      ]
    where
      fail_second : (a b z : Bool) → a ≡ false → b ≡ false → (a || (b && z)) ≡ false
      fail_second a b z p q = rw (p, q) refl

      shift : (x u w : ℤ) → int_lt w u ≡ false → int_lt (x -ℤ u) (x -ℤ w) ≡ false
      shift x u w e = grind (arith, ints)

      back : (x u w : ℤ) → int_eq (x -ℤ w) (x -ℤ u) ≡ true → int_eq w u ≡ true
      back x u w e = grind (arith, ints)

      none_left : (a b c d e f : Bool) → a ≡ false → c ≡ false → e ≡ false → (a || (b && (c || (d && (e || (f && nat_lt 0 0)))))) ≡ false
      none_left a b c d e f p q r = rw (p, q, r) (none b d f)
        where
          none : (x y z : Bool) → (false || (x && (false || (y && (false || (z && false)))))) ≡ false
          none x y z = grind arith

  -- the same by how two entries compare
  next : (order : List (ℤ × ℕ)) → All (λ e. e.0 ≡ deviation n p cs e.1) order
      → ((k : ℕ) (d : ℤ × ℕ) → 0 ≤ k → k + 1 < length order → is_lt (ordering_then (int_cmp (get_or order (k + 1) d).0 (get_or order k d).0) (nat_cmp (get_or order (k + 1) d).1 (get_or order k d).1)) ≡ false)
      → (k : ℕ) (d : ℤ × ℕ) → k + 1 < length order → (from : ℕ) → beats n p cs (move_of from (get_or order (k + 1) d).1 0) (move_of from (get_or order k d).1 0) ≡ false
  next order dev sorted k d inside from =
      let low : (get_or order k d).0 ≡ deviation n p cs (get_or order k d).1 = dev k d (omega (arith, inside)) in
      let high : (get_or order (k + 1) d).0 ≡ deviation n p cs (get_or order (k + 1) d).1 = dev (k + 1) d inside in
      let compared = no_less (get_or order (k + 1) d).0 (get_or order k d).0 (get_or order (k + 1) d).1 (get_or order k d).1 (sorted k d (omega arith) inside) in
      let parts : (int_lt (deviation n p cs (get_or order (k + 1) d).1) (deviation n p cs (get_or order k d).1) ≡ false) × (int_eq (deviation n p cs (get_or order (k + 1) d).1) (deviation n p cs (get_or order k d).1) ≡ true → nat_lt (get_or order (k + 1) d).1 (get_or order k d).1 ≡ false) = rw (low, high) at compared in
      fuller from (get_or order k d).1 (get_or order (k + 1) d).1 parts.0 parts.1

  -- what is no better than what is no better than a move is no better than it
  later_still : (u v w : Move) → beats n p cs v u ≡ false → beats n p cs w v ≡ false → beats n p cs w u ≡ false
  later_still u v w first second = elim (cases_Bool (beats n p cs u v)) [
    | inl better ↦ beats_less n p cs w v u second better
    | inr alike ↦
        let same = beats_equal n p cs u v alike first in
        rw same second
  ]

  -- where no move to an OSD is wanted, none to a fuller one is
  less_wanted : (from to osd : ℕ) (best : Option Move) → beats n p cs (move_of from to 0) (move_of from osd 0) ≡ false → is_wanted n p cs from osd best ≡ false → is_wanted n p cs from to best ≡ false
  less_wanted from to osd None less stays = false_from_ne_true _ (λ yes. absurd (false≢true (sym stays ∙ wider n p cs from to osd less yes)))
  less_wanted from to osd (Some b) less stays = false_from_ne_true _ (λ yes.
      let both = and_parts (int_lt (pos (least_gap n p cs)) (gap n p cs from to)) (beats n p cs (move_of from to 0) b) yes in
      let wide = wider n p cs from to osd less both.0 in
      let rather = rather_than n p cs from to osd b less both.1 in
      absurd (false≢true (sym stays ∙ and_from (int_lt (pos (least_gap n p cs)) (gap n p cs from osd)) (beats n p cs (move_of from osd 0) b) wide rather)))

  -- one entry more with its deviation
  pub measured_more : (order after : List (ℤ × ℕ)) (i : ℕ) (e : ℤ × ℕ) → i < length order → after ≡ set order i e → e.0 ≡ deviation n p cs e.1
      → ((j : ℕ) (d : ℤ × ℕ) → j < i → (get_or order j d).0 ≡ deviation n p cs (get_or order j d).1)
      → (j : ℕ) (d : ℤ × ℕ) → j < i + 1 → (get_or after j d).0 ≡ deviation n p cs (get_or after j d).1
  measured_more order after i e inside is dev before j d below = rw is (elim (cases_lt j i) [
    | inl less ↦ subst (λ (f : ℤ × ℕ). f.0 ≡ deviation n p cs f.1) (sym (get_or-set_other order i j e d (λ same. omega (arith, less, same)))) (before j d less)
    | inr over ↦
        let same : j ≡ i = omega (arith, below, over) in
        subst (λ (f : ℤ × ℕ). f.0 ≡ deviation n p cs f.1) (sym (ap (λ x. get_or (set order i e) x d) same ∙ get_or-set_same order i e d inside)) dev
  ])

  -- in the order, each OSD stands behind one that is no fuller
  rises : (order : List (ℤ × ℕ)) → All (λ e. e.0 ≡ deviation n p cs e.1) order
      → ((k : ℕ) (d : ℤ × ℕ) → 0 ≤ k → k + 1 < length order → is_lt (ordering_then (int_cmp (get_or order (k + 1) d).0 (get_or order k d).0) (nat_cmp (get_or order (k + 1) d).1 (get_or order k d).1)) ≡ false)
      → (i k j : ℕ) (d : ℤ × ℕ) → i + 1 + k ≡ j → j < length order → (from : ℕ) → beats n p cs (move_of from (get_or order j d).1 0) (move_of from (get_or order i d).1 0) ≡ false
  rises order dev sorted i zero j d e inside from =
      let at : i + 1 ≡ j = omega (arith, e) in
      subst (λ x. beats n p cs (move_of from (get_or order x d).1 0) (move_of from (get_or order i d).1 0) ≡ false) at (next order dev sorted i d (omega (arith, inside, at)) from)
  rises order dev sorted i (suc k) j d e inside from =
      let at : i + 1 + k + 1 ≡ j = omega (arith, e) in
      let before = rises order dev sorted i k (i + 1 + k) d refl (omega (arith, inside, at)) from in
      let here = next order dev sorted (i + 1 + k) d (omega (arith, inside, at)) from in
      subst (λ x. beats n p cs (move_of from (get_or order x d).1 0) (move_of from (get_or order i d).1 0) ≡ false) at
      (later_still (move_of from (get_or order i d).1 0) (move_of from (get_or order (i + 1 + k) d).1 0) (move_of from (get_or order (i + 1 + k + 1) d).1 0) before here)

  -- the candidates in order, from what a sort gives
  pub in_order : (m : ClusterMap) (osds : List ℕ) (before after : List (ℤ × ℕ)) → osds ≡ candidate_osds m p → IsPermutation (map (λ e. e.1) before) (candidate_osds m p) → All (λ e. e.0 ≡ deviation n p cs e.1) before → IsPermutation before after
      → ((k : ℕ) (d : ℤ × ℕ) → 0 ≤ k → k + 1 < length after → is_lt (ordering_then (int_cmp (get_or after (k + 1) d).0 (get_or after k d).0) (nat_cmp (get_or after (k + 1) d).1 (get_or after k d).1)) ≡ false)
      → IsOrder m n p cs osds after
  in_order m osds before after are all told after_move sorted =
      let dev : All (λ (e : ℤ × ℕ). e.0 ≡ deviation n p cs e.1) after = All-permutation (λ (e : ℤ × ℕ). e.0 ≡ deviation n p cs e.1) before after after_move told in
      let back : IsPermutation (map (λ (e : ℤ × ℕ). e.1) after) (candidate_osds m p) =
      IsPermutation-trans (map (λ (e : ℤ × ℕ). e.1) after) (map (λ (e : ℤ × ℕ). e.1) before) (candidate_osds m p)
      (IsPermutation-map (λ (e : ℤ × ℕ). e.1) after before (IsPermutation-sym before after after_move)) all in
      record {
        same = subst (λ xs. IsPermutation (map (λ (e : ℤ × ℕ). e.1) after) xs) (sym are) back;
        rising = λ k j d less inside from. rises after dev sorted k (j - k - 1) j d (omega (arith, less)) inside from;
        candidates = λ k d inside. each_candidate m p after back k d inside;
      }

  -- one OSD of the order more
  pub order_more : (old new : Option Move) (from : ℕ) (order : List (ℤ × ℕ)) (i : ℕ) (e : ℤ × ℕ) → i < length order → e ≡ get_or order i e → IsBetter n p cs old new → All (λ f. CoversPair n p cs old from f.1) (take i order)
      → CoversPair n p cs new from e.1 → All (λ f. CoversPair n p cs new from f.1) (take (i + 1) order)
  order_more old new from order i e inside is better before here =
      All-more (λ (f : ℤ × ℕ). CoversPair n p cs new from f.1) order i e inside
      (All-weaker (λ (f : ℤ × ℕ). CoversPair n p cs old from f.1) (λ (f : ℤ × ℕ). CoversPair n p cs new from f.1) (λ f covers. pair_kept n p cs old new from f.1 better covers) (take i order) before)
      (subst (λ (f : ℤ × ℕ). CoversPair n p cs new from f.1) is here)

  -- all of the order are all of the OSDs
  pub order_end : (m : ClusterMap) (best : Option Move) (from : ℕ) (osds : List ℕ) (order : List (ℤ × ℕ)) → IsOrder m n p cs osds order → All (λ f. CoversPair n p cs best from f.1) order → CoversFrom n p cs best from osds
  order_end m best from osds order is covers =
      All-permutation (CoversPair n p cs best from) (map (λ (f : ℤ × ℕ). f.1) order) osds is.same (All-map (CoversPair n p cs best from) (λ (f : ℤ × ℕ). f.1) order covers)

  -- those behind one that is not wanted are not wanted
  pub order_cut : (m : ClusterMap) (best : Option Move) (from : ℕ) (osds : List ℕ) (order : List (ℤ × ℕ)) (i : ℕ) (e : ℤ × ℕ) → IsOrder m n p cs osds order → i < length order → e ≡ get_or order i e
      → is_wanted n p cs from e.1 best ≡ false → All (λ f. CoversPair n p cs best from f.1) (take i order) → CoversFrom n p cs best from osds
  order_cut m best from osds order i e is inside at stays before = order_end m best from osds order is each
    where
      here : (k : ℕ) (d : ℤ × ℕ) → i ≤ k → k < length order → beats n p cs (move_of from (get_or order k d).1 0) (move_of from (get_or order i d).1 0) ≡ false
      here k d low high = elim (cases_lt i k) [
        | inl less ↦ is.rising i k d less high from
        | inr over ↦
            let same : k ≡ i = omega (arith, low, over) in
            rw same (higher_not_better n p cs from (get_or order i d).1 0 0 (omega arith))
      ]

      each : All (λ f. CoversPair n p cs best from f.1) order
      each k d high = elim (cases_lt k i) [
        | inl less ↦ subst (λ (f : ℤ × ℕ). CoversPair n p cs best from f.1) (get_or-take i order k d less) (before k d (omega (arith, less, length-take-le i order (omega (arith, inside)))))
        | inr over ↦
            let e_is : get_or order i d ≡ e = get_or_default order i d e inside ∙ sym at in
            let less = subst (λ (f : ℤ × ℕ). beats n p cs (move_of from (get_or order k d).1 0) (move_of from f.1 0) ≡ false) e_is (here k d over high) in
            unwanted n p cs from (get_or order k d).1 best (less_wanted from (get_or order k d).1 e.1 best less stays)
      ]
