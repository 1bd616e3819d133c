-- The best move covers all good moves, and so is the one that the definition names.
use Rattle.std.proofs.Common.{◌≡◌, ◌∙◌, refl, sym, ap, subst, ℕ, zero, suc, ◌<◌, Bool, true, false, not, List, [], ◌∷◌, length, get_or, map, Option, Some, None, inl, inr, arith}
use mathlib.Core.Bool.{false≢true}
use Rattle.std.specs.Prelude.{IfSome, MatchOption}
use Rattle.std.specs.List.{All, Contains, filter, find, flat_map, list_all, range_with_len}
use Rattle.std.proofs.lemmas.Bool.{cases_Bool}
use Rattle.std.proofs.lemmas.List.Elements.{All-nil, All-append, All-map, All-contains, All-filter, Contains-append_left, Contains-append_right, filter_passes}
use Rattle.std.proofs.lemmas.List.Concat.{flat_map-cons}
use Rattle.std.proofs.lemmas.List.FromFn.{get_or-range_with_len, length-range_with_len}
use Rattle.std.proofs.lemmas.List.{length-map, get_or-map}
use Rattle.keylist.proofs.Each.{list_all-at, list_all-from}
use Rattle.keylist.proofs.Tests.{not_true}
use Rattle.maptypes.specs.Pools.{PoolFacts}
use Rattle.osdmap.specs.Maps.{ClusterMap}
use Rattle.balancer.specs.declared.moves.Move.{Move}
use Rattle.balancer.specs.Shares.{osds_of, is_candidate, candidate_osds, Aim}
use Rattle.balancer.specs.Moves.{move_of}
use Rattle.balancer.specs.Greedy.{is_good, all_moves, good_moves, beats, best_move, after_moves}
use Rattle.balancer.specs.Boards.{IsGood, IsBest, IsCovered, CoversPair, CoversFrom, CoversAll}
use Rattle.balancer.proofs.DeviationsSmall.{candidate_below, candidate_now}
use Rattle.balancer.proofs.AllowedByTests.{good_candidates}
use Rattle.balancer.proofs.MovesCompare.{beats_equal}

-- ---- lists

-- the only element that passes is what is found
find_only : {X : Type 0} (q : X → Bool) (xs : List X) (x : X) → Contains xs x → q x ≡ true → ((y : X) → Contains xs y → q y ≡ true → y ≡ x) → find q xs ≡ Some x
find_only q [] x inside passes only = absurd (omega (arith, inside.1))
find_only q (y ∷ ys) x inside passes only = elim (cases_Bool (q y)) [
  | inl here ↦ let same = only y (0, omega arith, refl) here in rw here (ap (λ z. Some z) same)
  | inr other ↦ rw other (find_only q ys x (later other inside) passes (λ z there. only z (suc there.0, omega (arith, there.1), there.2)))
]
  where
    later : q y ≡ false → Contains (y ∷ ys) x → Contains ys x
    later other (zero, below, at) = absurd (false≢true (sym other ∙ rw (sym at) at passes))
    later other (suc k, below, at) = (k, omega (arith, below), at)

-- what a list has, it has behind another entry
contains_later : {X : Type 0} (y : X) (ys : List X) (x : X) → Contains ys x → Contains (y ∷ ys) x
contains_later y ys x there = (suc there.0, omega (arith, there.1), there.2)

-- what a list has and passes a test stays
pub contains_filter : {X : Type 0} (q : X → Bool) (xs : List X) (x : X) → Contains xs x → q x ≡ true → Contains (filter q xs) x
contains_filter q [] x inside passes = absurd (omega (arith, inside.1))
contains_filter q (y ∷ ys) x (zero, below, at) passes = rw (at, passes) (0, omega arith, refl)
contains_filter q (y ∷ ys) x (suc k, below, at) passes =
    let rest = contains_filter q ys x (k, omega (arith, below), at) passes in
    elim (cases_Bool (q y)) [
      | inl here ↦ rw here (contains_later y (filter q ys) x rest)
      | inr other ↦ rw other rest
    ]

-- what the list of one entry has, the lists of all have
contains_flat : {X Y : Type 0} (f : X → List Y) (xs : List X) (x : X) (y : Y) → Contains xs x → Contains (f x) y → Contains (flat_map f xs) y
contains_flat f [] x y inside there = absurd (omega (arith, inside.1))
contains_flat f (z ∷ zs) x y (zero, below, at) there = rw (flat_map-cons f z zs) (Contains-append_left (f z) (flat_map f zs) y (rw (sym at) at there))
contains_flat f (z ∷ zs) x y (suc k, below, at) there = rw (flat_map-cons f z zs) (Contains-append_right (f z) (flat_map f zs) y (contains_flat f zs x y (k, omega (arith, below), at) there))

-- what is made of an entry is among what is made of all
contains_map : {X Y : Type 0} (f : X → Y) (xs : List X) (x : X) → Contains xs x → Contains (map f xs) (f x)
contains_map f xs x (k, below, at) = (k, omega (arith, below, length-map xs f), get_or-map f xs k x (f x) below ∙ ap f at)

-- each number below a bound is in the range
pub contains_range : (n k : ℕ) → k < n → Contains (range_with_len 0 n) k
contains_range n k below = (k, omega (arith, length-range_with_len 0 n), get_or-range_with_len 0 n k k below ∙ omega arith)

-- all of a range is below its bound
range_below : (n : ℕ) → All (λ k. k < n) (range_with_len 0 n)
range_below n = λ k d inside. let at = get_or-range_with_len 0 n k d (omega (arith, inside, length-range_with_len 0 n)) in omega (arith, at, inside, length-range_with_len 0 n)

-- what holds of each list of an entry holds of all of them together
all_flat : {X Y : Type 0} (P : Y → Type 0) (f : X → List Y) (xs : List X) → ((x : X) → All P (f x)) → All P (flat_map f xs)
all_flat P f [] each = All-nil P
all_flat P f (x ∷ xs) each = subst (All P) (sym (flat_map-cons f x xs)) (All-append P (f x) (flat_map f xs) (each x) (all_flat P f xs each))

-- ---- all moves

module _ (m : ClusterMap) (p : PoolFacts) (cs : Aim) where
  moves_in : All (λ (v : Move). v.group < p.pg_num) (all_moves m p)
  moves_in =
      all_flat (λ (v : Move). v.group < p.pg_num) (λ from. flat_map (λ to. map (move_of from to) (range_with_len 0 p.pg_num)) (osds_of m)) (osds_of m)
      (λ from. all_flat (λ (v : Move). v.group < p.pg_num) (λ to. map (move_of from to) (range_with_len 0 p.pg_num)) (osds_of m)
      (λ to. All-map (λ (v : Move). v.group < p.pg_num) (move_of from to) (range_with_len 0 p.pg_num) (range_below p.pg_num)))

  goods_are : All (λ v. IsGood m p cs v) (good_moves m p cs)
  goods_are = λ k d inside. record {
    good = filter_passes (is_good m p cs) (all_moves m p) k d inside;
    there = All-filter (is_good m p cs) (λ (v : Move). v.group < p.pg_num) (all_moves m p) moves_in k d inside;
  }

  good_there : (v : Move) → IsGood m p cs v → Contains (good_moves m p cs) v
  good_there v good =
      let both = good_candidates m p cs v good.good in
      let from_in = contains_range (length m.presences) v.from (candidate_below m p v.from both.0) in
      let to_in = contains_range (length m.presences) v.to (candidate_below m p v.to both.1) in
      let group_in = contains_map (move_of v.from v.to) (range_with_len 0 p.pg_num) v.group (contains_range p.pg_num v.group good.there) in
      let pair_in = contains_flat (λ to. map (move_of v.from to) (range_with_len 0 p.pg_num)) (osds_of m) v.to v to_in group_in in
      contains_filter (is_good m p cs) (all_moves m p) v (contains_flat (λ from. flat_map (λ to. map (move_of from to) (range_with_len 0 p.pg_num)) (osds_of m)) (osds_of m) v.from v from_in pair_in) good.good

  best_is : (v : Move) → IsGood m p cs v → ((u : Move) → IsGood m p cs u → beats m p cs u v ≡ false) → best_move m p cs ≡ Some v
  unfolding best_move
  best_is v good unbeaten = find_only q (good_moves m p cs) v (good_there v good) passes only
    where
      q : Move → Bool
      q w = list_all (λ u. not (beats m p cs u w)) (good_moves m p cs)

      passes : list_all (λ u. not (beats m p cs u v)) (good_moves m p cs) ≡ true
      passes = list_all-from (λ u. not (beats m p cs u v)) (good_moves m p cs) v (λ i inside. ap not (unbeaten (get_or (good_moves m p cs) i v) (goods_are i v inside)))

      only : (w : Move) → Contains (good_moves m p cs) w → list_all (λ u. not (beats m p cs u w)) (good_moves m p cs) ≡ true → w ≡ v
      only w there tests =
          let at = good_there v good in
          let test = list_all-at (λ u. not (beats m p cs u w)) (good_moves m p cs) at.0 v at.1 tests in
          let not_v : beats m p cs v w ≡ false = not_true (beats m p cs v w) (rw at.2 at test) in
          beats_equal m p cs w v (unbeaten w (All-contains (λ u. IsGood m p cs u) (good_moves m p cs) w goods_are there)) not_v

  none_good : ((u : Move) → IsGood m p cs u → ⊥) → good_moves m p cs ≡ []
  none_good none = by_list (good_moves m p cs) goods_are
    where
      by_list : (vs : List Move) → All (λ v. IsGood m p cs v) vs → vs ≡ []
      by_list [] good = refl
      by_list (v ∷ vs) good = absurd (none v (good 0 v (omega arith)))

-- a candidate is among the candidates
pub candidate_in : (m : ClusterMap) (p : PoolFacts) (osd : ℕ) → is_candidate m p osd ≡ true → Contains (candidate_osds m p) osd
candidate_in m p osd is = contains_filter (is_candidate m p) (osds_of m) osd (contains_range (length m.presences) osd (candidate_below m p osd is)) is

-- ---- what is covered

module _ (m : ClusterMap) (p : PoolFacts) (cs : Aim) (moves : List Move) (osds : List ℕ) (are : osds ≡ candidate_osds m p) where
  abbrev later : ClusterMap
  later = after_moves m p moves

  pub osd_in : (osd : ℕ) → is_candidate later p osd ≡ true → Contains osds osd
  osd_in osd is =
      let here : is_candidate m p osd ≡ true = sym (candidate_now m p moves osd) ∙ is in
      subst (λ (xs : List ℕ). Contains xs osd) (sym are) (candidate_in m p osd here)

  covered : (best : Option Move) (u : Move) → CoversAll later p cs best osds osds → IsGood later p cs u → IsCovered later p cs best u
  covered best u covers good =
      let both = good_candidates later p cs u good.good in
      let from = All-contains (λ from. CoversFrom later p cs best from osds) osds u.from covers (osd_in u.from both.0) in
      let to = All-contains (λ to. CoversPair later p cs best u.from to) osds u.to from (osd_in u.to both.1) in
      to.each u.group good.there

  pub chosen : (best : Option Move) → IfSome best (λ v. IsGood later p cs v) → CoversAll later p cs best osds osds → MatchOption best (good_moves later p cs ≡ []) (λ v. IsBest later p cs v)
  chosen None good covers = none_good later p cs (λ u is. absurd (false≢true (sym (covered None u covers is) ∙ is.good)))
  chosen (Some v) good covers = record { good = good; best = best_is later p cs v good (λ u is. covered (Some v) u covers is is.good) }
