-- A good move makes the pool more even; and the state of a plan after one more move.
use Rattle.std.proofs.Common.{◌≡◌, ◌≢◌, ◌∙◌, refl, sym, ap, subst, ℕ, ◌+◌, ◌*◌, ◌-◌, ◌<◌, ◌≤◌, Bool, true, false, ◌||◌, eqb, ℤ, pos, negsuc, List, [], ◌∷◌, ◌++◌, length, get_or, set, Option, Some, unwrap_or, inl, inr, arith, eq-eqb}
use mathlib.Core.Bool.{false≢true}
use Rattle.std.specs.Prelude.{◌+ℤ◌, ◌-ℤ◌, int_lt, nat_abs}
use Rattle.std.proofs.lemmas.Bool.{cases_Bool, cases_lt, ne_eqb, eqb-true}
use Rattle.std.proofs.lemmas.Int.{ints}
use Rattle.std.proofs.lemmas.List.{get_or-set_same, get_or-set_other, length-set, length_push}
use Rattle.std.proofs.lemmas.List.Elements.{All-push}
use Rattle.std.proofs.lemmas.List.Folds.{list_any-append}
use Rattle.std.proofs.lemmas.List.FromFn.{fill_by_all, length-map-range_with_len, get_or-map-range_with_len}
use Rattle.std.proofs.lemmas.List.Sums.{fold-append}
use Rattle.std.proofs.Math.Nat.{mul-le-mul_left}
use Rattle.keylist.specs.Keys.{entry_at}
use Rattle.keylist.proofs.KeyedMaps.{entry-put}
use Rattle.maptypes.specs.declared.exception.Exception.{Exception}
use Rattle.maptypes.specs.declared.exception.Pair.{Pair}
use Rattle.maptypes.specs.Exceptions.{pg_key, key_of}
use Rattle.maptypes.specs.Pools.{PoolFacts}
use Rattle.osdmap.specs.Maps.{ClusterMap, pool_at, HoldsTogether}
use Rattle.osdmap.specs.Placement.{group_of}
use Rattle.balancer.specs.declared.group.Group.{Group}
use Rattle.balancer.specs.declared.moves.Move.{Move}
use Rattle.balancer.specs.Shares.{candidate_osds, total_weight, group_weight, least_gap, least_gain, deviation, square, unevenness, Aim}
use Rattle.balancer.specs.Moves.{after_move, pairs_in, pair_of_move, items_with_move}
use Rattle.balancer.specs.Greedy.{after_moves, gap}
use Rattle.balancer.specs.Plans.{is_moved, items_at}
use Rattle.balancer.specs.Boards.{IsGood, IsBoardOf, IsReached, deviations_of, group_after, group_at}
use Rattle.balancer.proofs.MappedSetsMoved.{said_moved, said_others}
use Rattle.balancer.proofs.DeviationsSmall.{pool_now, group_weight_now, gain_now}
use Rattle.balancer.proofs.AllowedByTests.{good_apart, good_wide}
use Rattle.balancer.proofs.MapAfterMove.{groups_moved, holds_moved}
use Rattle.balancer.proofs.CountsAfterMove.{two_sum, candidates_rise, candidates_moved, from_in, to_in, deviation_from, deviation_to, deviation_other}

-- ---- squares

-- the square of a difference of two numbers
square_is : (a b : ℕ) → square (pos a -ℤ pos b) + 2 * (a * b) ≡ a * a + b * b
square_is a b = elim (cases_lt a b) [
  | inl less ↦
      let k = b - a in
      let is : nat_abs (pos a -ℤ pos b) ≡ k = omega (arith, ints) in
      let sum : b ≡ a + k = omega arith in
      below a b k (nat_abs (pos a -ℤ pos b)) is sum
  | inr more ↦
      let k = a - b in
      let is : nat_abs (pos a -ℤ pos b) ≡ k = omega (arith, ints) in
      let sum : a ≡ b + k = omega arith in
      above a b k (nat_abs (pos a -ℤ pos b)) is sum
]
  where
    below : (x y j z : ℕ) → z ≡ j → y ≡ x + j → z * z + 2 * (x * y) ≡ x * x + y * y
    below x y j z e f = rw (e, f) (omega arith)

    above : (x y j z : ℕ) → z ≡ j → x ≡ y + j → z * z + 2 * (x * y) ≡ x * x + y * y
    above x y j z e f = rw (e, f) (omega arith)

-- two differences that come closer by t each, and are farther apart than t and s
closer : (a b c d t s : ℕ) → b + c + s < a + d
    → (square (pos a -ℤ pos b) + square (pos (c + t) -ℤ pos d)) + 2 * t * (1 + s) ≤ square (pos (a + t) -ℤ pos b) + square (pos c -ℤ pos d)
closer a b c d t s apart =
    let product : t * (b + c + s + 1) ≤ t * (a + d) = mul-le-mul_left t (omega arith) in
    by_squares (square (pos a -ℤ pos b)) (square (pos (c + t) -ℤ pos d)) (square (pos (a + t) -ℤ pos b)) (square (pos c -ℤ pos d))
    (square_is a b) (square_is (c + t) d) (square_is (a + t) b) (square_is c d) product
  where
    by_squares : (p q r w : ℕ) → p + 2 * (a * b) ≡ a * a + b * b → q + 2 * ((c + t) * d) ≡ (c + t) * (c + t) + d * d
        → r + 2 * ((a + t) * b) ≡ (a + t) * (a + t) + b * b → w + 2 * (c * d) ≡ c * c + d * d → t * (b + c + s + 1) ≤ t * (a + d) → (p + q) + 2 * t * (1 + s) ≤ r + w
    by_squares p q r w one two three four more = omega arith

-- a whole number is the difference of two natural ones, and greater than any one of them as one pleases
as_difference : (z : ℤ) (t : ℕ) → (a : ℕ) × (b : ℕ) × (z ≡ pos (a + t) -ℤ pos b)
as_difference (pos n) t = (n, t, omega (arith, ints))
as_difference (negsuc n) t = (0, n + 1 + t, omega (arith, ints))

-- two whole numbers that come closer by t each, and are farther apart than t and s
closer_ints : (x y : ℤ) (t s : ℕ) → int_lt (pos (t + s)) (x -ℤ y) ≡ true → (square (x -ℤ pos t) + square (y +ℤ pos t)) + 2 * t * (1 + s) ≤ square x + square y
closer_ints x y t s wide =
    let first = as_difference x t in
    let second = as_difference y 0 in
    by_naturals first.0 first.1 second.0 second.1 first.2 second.2
  where
    by_naturals : (a b c d : ℕ) → x ≡ pos (a + t) -ℤ pos b → y ≡ pos (c + 0) -ℤ pos d → (square (x -ℤ pos t) + square (y +ℤ pos t)) + 2 * t * (1 + s) ≤ square x + square y
    by_naturals a b c d x_is y_is =
        let far : b + c + s < a + d = grind (arith, ints) in
        let left : (x -ℤ pos t) ≡ (pos a -ℤ pos b) = omega (arith, ints) in
        let right : (y +ℤ pos t) ≡ (pos (c + t) -ℤ pos d) = omega (arith, ints) in
        let y_same : y ≡ (pos c -ℤ pos d) = omega (arith, ints) in
        rw (left, right, x_is, y_same) (closer a b c d t s far)

-- so many weights, of which there are 256 or more, are 256 of them and the others
parted : (t k : ℕ) → 256 ≤ k → k * t + 255 ≡ 256 * t + ((k - 256) * t + 255)
parted t k enough = parts (k - 256) k (omega arith)
  where
    parts : (j n : ℕ) → n ≡ 256 + j → n * t + 255 ≡ 256 * t + (j * t + 255)
    parts j n e = rw e (omega arith)

-- a gain of 1 and 255 more is one of 256 more
raised : (a b t more : ℕ) → a + 2 * t * (1 + (more + 255)) ≤ b → a + 2 * t * (256 + more) ≤ b
raised a b t more gain =
    let sum : 1 + (more + 255) ≡ 256 + more = omega arith in
    subst (λ n. a + 2 * t * n ≤ b) sum gain

-- ---- the pool is more even

module _ (m : ClusterMap) (p : PoolFacts) (cs : Aim) (v : Move) (good : IsGood m p cs v) (holds : HoldsTogether m) (there : pool_at m.pools p.id ≡ Some p) where
  abbrev next_map : ClusterMap
  next_map = after_move m p v

  above_least : 256 ≤ cs.apart → int_lt (pos (256 * total_weight m p + ((cs.apart - 256) * total_weight m p + 255))) (gap m p cs v.from v.to) ≡ true
  unfolding least_gap
  above_least enough = subst (λ n. int_lt (pos n) (gap m p cs v.from v.to) ≡ true) (parted (total_weight m p) cs.apart enough) (good_wide m p cs v good.good)

  ends_closer : 256 ≤ cs.apart → (square (deviation next_map p cs v.from) + square (deviation next_map p cs v.to)) + least_gain m p cs ≤ square (deviation m p cs v.from) + square (deviation m p cs v.to)
  unfolding group_weight least_gain
  ends_closer enough =
      rw (deviation_from m p cs v good holds there, deviation_to m p cs v good holds there)
      (raised _ _ (256 * total_weight m p) ((cs.apart - 256) * total_weight m p) (closer_ints (deviation m p cs v.from) (deviation m p cs v.to) (256 * total_weight m p) ((cs.apart - 256) * total_weight m p + 255) (above_least enough)))

  pub more_even : 256 ≤ cs.apart → unevenness next_map p cs + least_gain m p cs ≤ unevenness m p cs
  unfolding unevenness
  more_even enough =
      let sum = two_sum (λ osd. square (deviation m p cs osd)) (λ osd. square (deviation next_map p cs osd)) v.from v.to (candidate_osds m p) (candidates_rise m p) (from_in m p cs v good holds there) (to_in m p cs v good holds there) (good_apart m p cs v good.good)
      (λ osd from to. ap square (deviation_other m p cs v good holds there osd from to)) in
      rw (candidates_moved m p cs v good holds there) (omega (arith, sum, ends_closer enough))

  -- ---- the deviations of all OSDs

  pub deviations_moved : deviations_of next_map p cs ≡ set (set (deviations_of m p cs) v.from (deviation m p cs v.from -ℤ pos (group_weight m p))) v.to (deviation m p cs v.to +ℤ pos (group_weight m p))
  unfolding after_move
  deviations_moved = sym (fill_by_all (deviation next_map p cs) new (length m.presences) (pos 0) long each)
    where
      mid : List ℤ
      mid = set (deviations_of m p cs) v.from (deviation m p cs v.from -ℤ pos (group_weight m p))

      new : List ℤ
      new = set (set (deviations_of m p cs) v.from (deviation m p cs v.from -ℤ pos (group_weight m p))) v.to (deviation m p cs v.to +ℤ pos (group_weight m p))

      long_mid : length (set (deviations_of m p cs) v.from (deviation m p cs v.from -ℤ pos (group_weight m p))) ≡ length m.presences
      long_mid = length-set (deviations_of m p cs) v.from (deviation m p cs v.from -ℤ pos (group_weight m p)) ∙ length-map-range_with_len (deviation m p cs) 0 (length m.presences)

      long : length (set (set (deviations_of m p cs) v.from (deviation m p cs v.from -ℤ pos (group_weight m p))) v.to (deviation m p cs v.to +ℤ pos (group_weight m p))) ≡ length m.presences
      long = length-set (set (deviations_of m p cs) v.from (deviation m p cs v.from -ℤ pos (group_weight m p))) v.to (deviation m p cs v.to +ℤ pos (group_weight m p)) ∙ long_mid

      each : (k : ℕ) → k < length m.presences → get_or (set (set (deviations_of m p cs) v.from (deviation m p cs v.from -ℤ pos (group_weight m p))) v.to (deviation m p cs v.to +ℤ pos (group_weight m p))) k (pos 0) ≡ deviation (after_move m p v) p cs k
      each k below = elim (cases_Bool (eqb k v.to)) [
        | inl here ↦
            let same : k ≡ v.to = eqb-true k v.to here in
            let inside : v.to < length (set (deviations_of m p cs) v.from (deviation m p cs v.from -ℤ pos (group_weight m p))) = omega (arith, long_mid, same, below) in
            rw same (get_or-set_same (set (deviations_of m p cs) v.from (deviation m p cs v.from -ℤ pos (group_weight m p))) v.to (deviation m p cs v.to +ℤ pos (group_weight m p)) (pos 0) inside ∙ sym (deviation_to m p cs v good holds there))
        | inr apart ↦
            let not_to : k ≢ v.to = λ e. absurd (false≢true (sym apart ∙ eq-eqb k v.to e)) in
            get_or-set_other (set (deviations_of m p cs) v.from (deviation m p cs v.from -ℤ pos (group_weight m p))) v.to k (deviation m p cs v.to +ℤ pos (group_weight m p)) (pos 0) not_to
            ∙ elim (cases_Bool (eqb k v.from)) [
              | inl here ↦
                  let same : k ≡ v.from = eqb-true k v.from here in
                  let inside : v.from < length (deviations_of m p cs) = omega (arith, length-map-range_with_len (deviation m p cs) 0 (length m.presences), same, below) in
                  rw same (get_or-set_same (deviations_of m p cs) v.from (deviation m p cs v.from -ℤ pos (group_weight m p)) (pos 0) inside ∙ sym (deviation_from m p cs v good holds there))
              | inr away ↦
                  let not_from : k ≢ v.from = λ e. absurd (false≢true (sym away ∙ eq-eqb k v.from e)) in
                  get_or-set_other (deviations_of m p cs) v.from k (deviation m p cs v.from -ℤ pos (group_weight m p)) (pos 0) not_from
                  ∙ get_or-map-range_with_len (deviation m p cs) 0 (length m.presences) k k (pos 0) below (omega arith) ∙ sym (deviation_other m p cs v good holds there k not_from not_to)
            ]
      ]

-- ---- one more move

module _ (m : ClusterMap) (p : PoolFacts) (cs : Aim) (moves : List Move) (v : Move) (good : IsGood (after_moves m p moves) p cs v) (reached : IsReached m p cs moves) (there : pool_at m.pools p.id ≡ Some p) where
  abbrev now : ClusterMap
  now = after_moves m p moves

  pub after_more : after_moves m p (moves ++ v ∷ []) ≡ after_move now p v
  after_more = fold-append (λ n w. after_move n p w) m moves (v ∷ [])

  there_now : pool_at now.pools p.id ≡ Some p
  there_now = pool_now m p moves there

  items_now : (n : ℕ) → v.group ≡ n → entry_at key_of (after_move now p v).items (pg_key (group_of p n)) ≡ Some (items_at (after_move now p v) p n)
  unfolding after_move
  items_now n here =
      let same : eqb (key_of (items_with_move now p v)) (pg_key (group_of p n)) ≡ true = eq-eqb (pg_key (group_of p v.group)) (pg_key (group_of p n)) (ap (λ k. pg_key (group_of p k)) here) in
      let entries : pairs_in now (group_of p v.group) ++ pair_of_move v ∷ [] ≡ pairs_in (after_move now p v) (group_of p v.group) = sym (ap (λ (o : Option (List Pair)). unwrap_or o []) (said_moved now p v)) in
      entry-put key_of now.items (items_with_move now p v) (pg_key (group_of p n)) ∙ rw same (ap (λ (e : Exception Pair). Some e) (λ i. record { pg = group_of p v.group; entries = entries i }) ∙ ap (λ k. Some (items_at (after_move now p v) p k)) here)

  items_still : (n : ℕ) → n ≢ v.group → is_moved moves n ≡ true → entry_at key_of (after_move now p v).items (pg_key (group_of p n)) ≡ Some (items_at (after_move now p v) p n)
  unfolding after_move
  items_still n other was =
      let apart : eqb (key_of (items_with_move now p v)) (pg_key (group_of p n)) ≡ false = ne_eqb (pg_key (group_of p v.group)) (pg_key (group_of p n)) (λ e. other (omega (arith, e))) in
      let entries : pairs_in now (group_of p n) ≡ pairs_in (after_move now p v) (group_of p n) = sym (ap (λ (o : Option (List Pair)). unwrap_or o []) (said_others now p v n other)) in
      entry-put key_of now.items (items_with_move now p v) (pg_key (group_of p n)) ∙ rw apart (reached.named n was ∙ ap (λ (e : Exception Pair). Some e) (λ i. record { pg = group_of p n; entries = entries i }))

  named_more : (n : ℕ) → is_moved (moves ++ v ∷ []) n ≡ true → entry_at key_of (after_move now p v).items (pg_key (group_of p n)) ≡ Some (items_at (after_move now p v) p n)
  named_more n is = elim (cases_Bool (eqb v.group n)) [
    | inl here ↦ items_now n (eqb-true v.group n here)
    | inr apart ↦
        let other : n ≢ v.group = λ e. absurd (false≢true (sym apart ∙ eq-eqb v.group n (sym e))) in
        items_still n other (earlier (is_moved moves n) (rw apart at (sym (list_any-append (λ (w : Move). eqb w.group n) moves (v ∷ [])) ∙ is)))
  ]
    where
      earlier : (b : Bool) → (b || false) ≡ true → b ≡ true
      earlier true e = refl
      earlier false e = absurd (false≢true e)

  pub reached_more : 256 ≤ cs.apart → IsReached m p cs (moves ++ v ∷ [])
  reached_more enough = record {
    holds = subst HoldsTogether (sym after_more) (holds_moved now p cs v good reached.holds there_now);
    there = All-push (λ (w : Move). w.group < p.pg_num) moves v reached.there good.there;
    named = subst (λ (n : ClusterMap). (k : ℕ) → is_moved (moves ++ v ∷ []) k ≡ true → entry_at key_of n.items (pg_key (group_of p k)) ≡ Some (items_at n p k)) (sym after_more) named_more;
    evens = subst (λ (n : ClusterMap). unevenness n p cs + least_gain m p cs * length (moves ++ v ∷ []) ≤ unevenness m p cs) (sym after_more) evens_more;
  }
    where
      evens_more : unevenness (after_move (after_moves m p moves) p v) p cs + least_gain m p cs * length (moves ++ v ∷ []) ≤ unevenness m p cs
      evens_more = by_sums (unevenness (after_move (after_moves m p moves) p v) p cs) (unevenness (after_moves m p moves) p cs) (unevenness m p cs) (least_gain m p cs) (length moves) (length (moves ++ v ∷ []))
          (length_push moves v) (rw (gain_now m p cs moves) at (more_even (after_moves m p moves) p cs v good reached.holds there_now enough)) reached.evens
        where
          by_sums : (x y z t k j : ℕ) → j ≡ k + 1 → x + t ≤ y → y + t * k ≤ z → x + t * j ≤ z
          by_sums x y z t k j long step before = rw long (omega arith)

  pub board_more : (gs : List Group) (ds : List ℤ) (g : Group) (x y : ℤ) → IsBoardOf now p cs gs ds → g ≡ group_at now p v.group → x ≡ deviation now p cs v.from → y ≡ deviation now p cs v.to
      → IsBoardOf (after_moves m p (moves ++ v ∷ [])) p cs (set gs v.group (group_after g v)) (set (set ds v.from (x -ℤ pos (group_weight m p))) v.to (y +ℤ pos (group_weight m p)))
  board_more gs ds g x y board is_g is_x is_y =
      subst (λ n. IsBoardOf n p cs (set gs v.group (group_after g v)) (set (set ds v.from (x -ℤ pos (group_weight m p))) v.to (y +ℤ pos (group_weight m p)))) (sym after_more)
      (record {
        groups = rw (board.groups, is_g) (sym (groups_moved now p cs v good));
        deviations = rw (board.deviations, is_x, is_y, sym (group_weight_now m p moves)) (sym (deviations_moved now p cs v good reached.holds there_now));
      })
