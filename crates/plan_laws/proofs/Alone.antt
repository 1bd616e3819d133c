-- Where OSDs carry nothing and one group decides, the plan is that of the pool by itself.
use Rattle.std.proofs.Common.{◌≡◌, ◌∙◌, refl, sym, ap, ℕ, zero, suc, ◌+◌, ◌*◌, true, false, not, ◌&&◌, ◌||◌, ℤ, pos, [], ◌∷◌, inl, inr, arith}
use Rattle.std.specs.Prelude.{◌-ℤ◌, ◌*ℤ◌, int_lt}
use Rattle.std.specs.List.{filter, find, list_all}
use Rattle.std.specs.Option.{option_map_or}
use Rattle.std.specs.Ordering.{int_eq}
use Rattle.std.proofs.lemmas.Bool.{cases_Bool}
use Rattle.std.proofs.lemmas.Int.{ints}
use Rattle.maptypes.specs.Pools.{PoolFacts}
use Rattle.osdmap.specs.Maps.{ClusterMap}
use Rattle.balancer.specs.declared.moves.Move.{Move}
use Rattle.balancer.specs.Shares.{total_weight, above_share, least_gap}
use Rattle.balancer.specs.Moves.{after_move, is_allowed}
use Rattle.balancer.specs.Greedy.{gap, is_good, all_moves, precedes, beats, best_move, greedy}
use Rattle.plan_laws.specs.Alone.{alone, gap_alone, is_good_alone, beats_alone, best_alone, greedy_alone}
use Rattle.balancer.proofs.DeviationsSmall.{none_carried}

-- ---- numbers 256 times

-- one is below the other where it is so
scaled_lt : (x y : ℤ) → int_lt (pos 256 *ℤ x) (pos 256 *ℤ y) ≡ int_lt x y
scaled_lt x y = elim (cases_Bool (int_lt x y)) [
  | inl less ↦ let far : int_lt (pos 256 *ℤ x) (pos 256 *ℤ y) ≡ true = grind (arith, ints) in far ∙ sym less
  | inr more ↦ let near : int_lt (pos 256 *ℤ x) (pos 256 *ℤ y) ≡ false = grind (arith, ints) in near ∙ sym more
]

-- they are the same where they are so
scaled_eq : (x y : ℤ) → int_eq (pos 256 *ℤ x) (pos 256 *ℤ y) ≡ int_eq x y
scaled_eq x y = elim (cases_Bool (int_eq x y)) [
  | inl same ↦ let far : int_eq (pos 256 *ℤ x) (pos 256 *ℤ y) ≡ true = grind (arith, ints) in far ∙ sym same
  | inr other ↦ let near : int_eq (pos 256 *ℤ x) (pos 256 *ℤ y) ≡ false = grind (arith, ints) in near ∙ sym other
]

-- the same of what is 256 times a number
same_lt : (a b x y : ℤ) → a ≡ (pos 256 *ℤ x) → b ≡ (pos 256 *ℤ y) → int_lt a b ≡ int_lt x y
same_lt a b x y a_is b_is = ap (λ z. int_lt z b) a_is ∙ ap (int_lt (pos 256 *ℤ x)) b_is ∙ scaled_lt x y

-- the same of what is 256 times a number, where the two are equal
same_eq : (a b x y : ℤ) → a ≡ (pos 256 *ℤ x) → b ≡ (pos 256 *ℤ y) → int_eq a b ≡ int_eq x y
same_eq a b x y a_is b_is = ap (λ z. int_eq z b) a_is ∙ ap (int_eq (pos 256 *ℤ x)) b_is ∙ scaled_eq x y

-- they are more than so many times 256 and 255 where they are 256 more
scaled_above : (t : ℕ) (x : ℤ) → int_lt (pos (256 * t + 255)) (pos 256 *ℤ x) ≡ int_lt (pos t) x
scaled_above t x = elim (cases_Bool (int_lt (pos t) x)) [
  | inl less ↦ let far : int_lt (pos (256 * t + 255)) (pos 256 *ℤ x) ≡ true = grind (arith, ints) in far ∙ sym less
  | inr more ↦ let near : int_lt (pos (256 * t + 255)) (pos 256 *ℤ x) ≡ false = grind (arith, ints) in near ∙ sym more
]

-- ---- the words of the plan

-- how far two OSDs are apart, 256 times
gap_is : (m : ClusterMap) (p : PoolFacts) (from to : ℕ) → gap m p alone from to ≡ (pos 256 *ℤ gap_alone m p from to)
gap_is m p from to = rw (none_carried m p 256 from, none_carried m p 256 to) (apart (above_share m p from) (above_share m p to))
  where
    apart : (x y : ℤ) → (pos 256 *ℤ x -ℤ pos 256 *ℤ y) ≡ (pos 256 *ℤ (x -ℤ y))
    apart x y = omega (arith, ints)

-- a move is good where it is so in whole groups
pub good_is : (m : ClusterMap) (p : PoolFacts) (v : Move) → is_good m p alone v ≡ is_good_alone m p v
unfolding is_good is_good_alone least_gap
good_is m p v =
    ap (λ b. is_allowed m p v && b)
    (ap (λ z. int_lt (pos (256 * total_weight m p + 255)) z) (gap_is m p v.from v.to)
    ∙ scaled_above (total_weight m p) (gap_alone m p v.from v.to))

-- so is what is taken rather than another
pub beats_is : (m : ClusterMap) (p : PoolFacts) (u v : Move) → beats m p alone u v ≡ beats_alone m p u v
unfolding beats beats_alone
beats_is m p u v = λ i. farther i || (level i && precedes u v)
  where
    farther : int_lt (gap m p alone v.from v.to) (gap m p alone u.from u.to) ≡ int_lt (gap_alone m p v.from v.to) (gap_alone m p u.from u.to)
    farther = same_lt (gap m p alone v.from v.to) (gap m p alone u.from u.to) (gap_alone m p v.from v.to) (gap_alone m p u.from u.to) (gap_is m p v.from v.to) (gap_is m p u.from u.to)

    level : int_eq (gap m p alone u.from u.to) (gap m p alone v.from v.to) ≡ int_eq (gap_alone m p u.from u.to) (gap_alone m p v.from v.to)
    level = same_eq (gap m p alone u.from u.to) (gap m p alone v.from v.to) (gap_alone m p u.from u.to) (gap_alone m p v.from v.to) (gap_is m p u.from u.to) (gap_is m p v.from v.to)

-- and the best move
pub best_is : (m : ClusterMap) (p : PoolFacts) → best_move m p alone ≡ best_alone m p
unfolding best_move best_alone
best_is m p = λ i.
    find (λ v. list_all (λ u. not (beats_is m p u v i)) (filter (λ w. good_is m p w i) (all_moves m p))) (filter (λ w. good_is m p w i) (all_moves m p))

-- the plan of a pool by itself
pub greedy_is : (m : ClusterMap) (p : PoolFacts) (n : ℕ) → greedy m p alone n ≡ greedy_alone m p n
unfolding greedy greedy_alone
greedy_is m p zero = refl
greedy_is m p (suc n) = λ i. option_map_or (λ v. v ∷ greedy_is (after_move m p v) p n i) (best_is m p i) []
