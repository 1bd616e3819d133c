-- Which of two moves is taken rather than the other: an order in which any two moves compare.
use Rattle.std.proofs.Common.{◌≡◌, ◌∙◌, refl, sym, ℕ, ◌≤◌, Bool, true, false, ◌&&◌, ◌||◌, eqb, ℤ, arith}
use mathlib.Core.Bool.{false≢true}
use Rattle.std.specs.Prelude.{int_lt, nat_lt}
use Rattle.std.specs.Ordering.{int_eq}
use Rattle.std.proofs.lemmas.Bool.{false_from_ne_true}
use Rattle.std.proofs.lemmas.Bool.Decides.{nat_tests}
use Rattle.std.proofs.lemmas.Int.{ints}
use Rattle.maptypes.specs.Pools.{PoolFacts}
use Rattle.osdmap.specs.Maps.{ClusterMap}
use Rattle.balancer.specs.Shares.{Aim}
use Rattle.balancer.specs.declared.moves.Move.{Move}
use Rattle.balancer.specs.Moves.{move_of}
use Rattle.balancer.specs.Greedy.{gap, precedes, beats}

-- ---- one order, and another among equals

-- it is transitive
lex_trans : (a b c ea eb ec sa sb sc : Bool) → (a ≡ true → b ≡ true → c ≡ true) → (a ≡ true → eb ≡ true → c ≡ true) → (ea ≡ true → b ≡ true → c ≡ true)
    → (ea ≡ true → eb ≡ true → ec ≡ true) → (sa ≡ true → sb ≡ true → sc ≡ true) → (a || (ea && sa)) ≡ true → (b || (eb && sb)) ≡ true → (c || (ec && sc)) ≡ true
lex_trans true true c ea eb ec sa sb sc both left right same second p q = rw (both refl refl) refl
lex_trans true false c ea true ec sa sb sc both left right same second p q = rw (left refl refl) refl
lex_trans true false c ea false ec sa sb sc both left right same second p q = absurd (false≢true q)
lex_trans false b c false eb ec sa sb sc both left right same second p q = absurd (false≢true p)
lex_trans false true c true eb ec sa sb sc both left right same second p q = rw (right refl refl) refl
lex_trans false false c true false ec sa sb sc both left right same second p q = absurd (false≢true q)
lex_trans false false c true true ec sa sb sc both left right same second p q = rw (same refl refl, second p q) (or_true c)
  where
    or_true : (x : Bool) → (x || true) ≡ true
    or_true true = refl
    or_true false = refl

-- where neither of two is first, they are equal by the one order, and neither is first by the other
lex_equal : (a b ea eb sa sb : Bool) → (a ≡ false → b ≡ false → (ea ≡ true) × (eb ≡ true)) → (a || (ea && sa)) ≡ false → (b || (eb && sb)) ≡ false → (ea ≡ true) × (sa ≡ false) × (sb ≡ false)
lex_equal true b ea eb sa sb total p q = absurd (false≢true (sym p))
lex_equal false true ea eb sa sb total p q = absurd (false≢true (sym q))
lex_equal false false ea eb sa sb total p q =
    let same = total refl refl in
    (same.0, rw same.0 at p, rw same.1 at q)

-- what is between two equals is their equal by the one order
lex_between : (a b ea eb sa sb : Bool) → (a ≡ true → b ≡ true → ⊥) → (a ≡ true → eb ≡ true → ⊥) → (ea ≡ true → b ≡ true → ⊥) → (a || (ea && sa)) ≡ true → (b || (eb && sb)) ≡ true
    → (ea ≡ true) × (sa ≡ true) × (sb ≡ true)
lex_between true true ea eb sa sb both left right p q = absurd (both refl refl)
lex_between true false ea true sa sb both left right p q = absurd (left refl refl)
lex_between true false ea false sa sb both left right p q = absurd (false≢true q)
lex_between false true true eb sa sb both left right p q = absurd (right refl refl)
lex_between false true false eb sa sb both left right p q = absurd (false≢true p)
lex_between false false true true sa sb both left right p q = (refl, p, q)
lex_between false false true false sa sb both left right p q = absurd (false≢true q)
lex_between false false false eb sa sb both left right p q = absurd (false≢true p)

-- none comes first of equals
none_first : (a b c d e f h : Bool) → a ≡ false → c ≡ false → e ≡ false → h ≡ false → (a || (b && (c || (d && (e || (f && h)))))) ≡ false
none_first a b c d e f h p q r s = rw (p, q, r, s) (none b d f)
  where
    none : (x y z : Bool) → (false || (x && (false || (y && (false || (z && false)))))) ≡ false
    none x y z = grind arith

-- a list of tests that fails with its last test true fails with it false
weaker : (a b c d e f : Bool) → (a || (b && (c || (d && (e || (f && true)))))) ≡ false → (a || (b && (c || (d && (e || (f && false)))))) ≡ false
weaker a b c d e f is = grind arith

-- ---- numbers

-- less of numbers goes through
lt_trans : (a b c : ℕ) → nat_lt a b ≡ true → nat_lt b c ≡ true → nat_lt a c ≡ true
lt_trans a b c p q = grind (arith, nat_tests)

-- less and then equal is less
lt_eq : (a b c : ℕ) → nat_lt a b ≡ true → eqb b c ≡ true → nat_lt a c ≡ true
lt_eq a b c p q = grind (arith, nat_tests)

-- equal and then less is less
eq_lt : (a b c : ℕ) → eqb a b ≡ true → nat_lt b c ≡ true → nat_lt a c ≡ true
eq_lt a b c p q = grind (arith, nat_tests)

-- equal goes through
eq_trans : (a b c : ℕ) → eqb a b ≡ true → eqb b c ≡ true → eqb a c ≡ true
eq_trans a b c p q = grind (arith, nat_tests)

-- numbers of which neither is less are equal
eq_from_neither : (a b : ℕ) → nat_lt a b ≡ false → nat_lt b a ≡ false → (eqb a b ≡ true) × (eqb b a ≡ true)
eq_from_neither a b p q = (grind (arith, nat_tests), grind (arith, nat_tests))

-- numbers that are tested equal are
is_equal : (a b : ℕ) → eqb a b ≡ true → a ≡ b
is_equal a b p = grind (arith, nat_tests)

-- of two numbers not each is less
not_both : (a b : ℕ) → nat_lt a b ≡ true → nat_lt b a ≡ true → ⊥
not_both a b p q = grind (arith, nat_tests)

-- a number that is less is not equal
not_less : (a b : ℕ) → nat_lt a b ≡ true → eqb b a ≡ true → ⊥
not_less a b p q = grind (arith, nat_tests)

-- numbers that are equal are not less
not_more : (a b : ℕ) → eqb a b ≡ true → nat_lt b a ≡ true → ⊥
not_more a b p q = grind (arith, nat_tests)

-- ---- whole numbers

-- of two differences not each is less
znot_both : (a b : ℤ) → int_lt b a ≡ true → int_lt a b ≡ true → ⊥
znot_both a b p q = grind (arith, ints)

-- a difference that is less is not equal
znot_less : (a b : ℤ) → int_lt b a ≡ true → int_eq b a ≡ true → ⊥
znot_less a b p q = grind (arith, ints)

-- differences that are equal are not less
znot_more : (a b : ℤ) → int_eq a b ≡ true → int_lt a b ≡ true → ⊥
znot_more a b p q = grind (arith, ints)

-- less of differences goes through
zlt_trans : (a b c : ℤ) → int_lt b a ≡ true → int_lt c b ≡ true → int_lt c a ≡ true
zlt_trans a b c p q = grind (arith, ints)

-- less and then equal is less, of differences
zlt_eq : (a b c : ℤ) → int_lt b a ≡ true → int_eq b c ≡ true → int_lt c a ≡ true
zlt_eq a b c p q = grind (arith, ints)

-- equal and then less is less, of differences
zeq_lt : (a b c : ℤ) → int_eq a b ≡ true → int_lt c b ≡ true → int_lt c a ≡ true
zeq_lt a b c p q = grind (arith, ints)

-- equal goes through, of differences
zeq_trans : (a b c : ℤ) → int_eq a b ≡ true → int_eq b c ≡ true → int_eq a c ≡ true
zeq_trans a b c p q = grind (arith, ints)

-- differences of which neither is less are equal
zeq_from_neither : (a b : ℤ) → int_lt b a ≡ false → int_lt a b ≡ false → (int_eq a b ≡ true) × (int_eq b a ≡ true)
zeq_from_neither a b p q = (grind (arith, ints), grind (arith, ints))

-- ---- moves

-- coming first goes through
precedes_trans : (u v w : Move) → precedes u v ≡ true → precedes v w ≡ true → precedes u w ≡ true
precedes_trans u v w p q =
    lex_trans _ _ _ _ _ _ _ _ _ (lt_trans u.from v.from w.from) (lt_eq u.from v.from w.from) (eq_lt u.from v.from w.from) (eq_trans u.from v.from w.from)
    (lex_trans _ _ _ _ _ _ _ _ _ (lt_trans u.to v.to w.to) (lt_eq u.to v.to w.to) (eq_lt u.to v.to w.to) (eq_trans u.to v.to w.to) (lt_trans u.group v.group w.group)) p q

-- moves of which neither comes first are the same
precedes_equal : (u v : Move) → precedes u v ≡ false → precedes v u ≡ false → u ≡ v
precedes_equal u v p q =
    let first = lex_equal (nat_lt u.from v.from) (nat_lt v.from u.from) (eqb u.from v.from) (eqb v.from u.from) _ _ (eq_from_neither u.from v.from) p q in
    let second = lex_equal (nat_lt u.to v.to) (nat_lt v.to u.to) (eqb u.to v.to) (eqb v.to u.to) _ _ (eq_from_neither u.to v.to) first.1 first.2 in
    let third = eq_from_neither u.group v.group second.1 second.2 in
    let a : u.from ≡ v.from = is_equal u.from v.from first.0 in
    let b : u.to ≡ v.to = is_equal u.to v.to second.0 in
    let c : u.group ≡ v.group = is_equal u.group v.group third.0 in
    λ i. record { group = c i; from = a i; to = b i }

module _ (m : ClusterMap) (p : PoolFacts) (cs : Aim) where
  abbrev of : Move → ℤ
  of v = gap m p cs v.from v.to

  pub beats_trans : (u v w : Move) → beats m p cs u v ≡ true → beats m p cs v w ≡ true → beats m p cs u w ≡ true
  unfolding beats
  beats_trans u v w =
      lex_trans (int_lt (of v) (of u)) (int_lt (of w) (of v)) (int_lt (of w) (of u)) (int_eq (of u) (of v)) (int_eq (of v) (of w)) (int_eq (of u) (of w)) (precedes u v) (precedes v w) (precedes u w)
      (zlt_trans (of u) (of v) (of w)) (zlt_eq (of u) (of v) (of w)) (zeq_lt (of u) (of v) (of w)) (zeq_trans (of u) (of v) (of w)) (precedes_trans u v w)

  pub beats_equal : (u v : Move) → beats m p cs u v ≡ false → beats m p cs v u ≡ false → u ≡ v
  unfolding beats
  beats_equal u v here there =
      let parts = lex_equal (int_lt (of v) (of u)) (int_lt (of u) (of v)) (int_eq (of u) (of v)) (int_eq (of v) (of u)) (precedes u v) (precedes v u) (zeq_from_neither (of u) (of v)) here there in
      precedes_equal u v parts.1 parts.2

  -- what is not better than a move is not better than one that is taken rather than it
  pub beats_less : (u v w : Move) → beats m p cs u v ≡ false → beats m p cs w v ≡ true → beats m p cs u w ≡ false
  beats_less u v w not_better better = false_from_ne_true (beats m p cs u w) (λ yes. absurd (false≢true (sym not_better ∙ beats_trans u w v yes better)))

  -- of two moves of one pair that of the higher group is not better
  pub higher_not_better : (from to g k : ℕ) → k ≤ g → beats m p cs (move_of from to g) (move_of from to k) ≡ false
  unfolding beats
  higher_not_better from to g k low =
      let x = of (move_of from to 0) in
      let less : int_lt x x ≡ false = grind (arith, ints) in
      let from_less : nat_lt from from ≡ false = grind (arith, nat_tests) in
      let to_less : nat_lt to to ≡ false = grind (arith, nat_tests) in
      let group_less : nat_lt g k ≡ false = grind (arith, nat_tests) in
      none_first (int_lt x x) (int_eq x x) (nat_lt from from) (eqb from from) (nat_lt to to) (eqb to to) (nat_lt g k) less from_less to_less group_less

  -- what holds of the lowest group holds of each
  pub lowest_not_better : (from to g : ℕ) (v : Move) → beats m p cs (move_of from to 0) v ≡ false → beats m p cs (move_of from to g) v ≡ false
  unfolding beats
  lowest_not_better from to g v none = lower (int_lt (of v) (of (move_of from to 0))) (int_eq (of (move_of from to 0)) (of v)) (nat_lt from v.from) (eqb from v.from) (nat_lt to v.to) (eqb to v.to) (nat_lt 0 v.group) (nat_lt g v.group) less none
    where
      less : nat_lt g v.group ≡ true → nat_lt 0 v.group ≡ true
      less is = grind (arith, nat_tests)

      lower : (a b c d e f h k : Bool) → (k ≡ true → h ≡ true) → (a || (b && (c || (d && (e || (f && h)))))) ≡ false → (a || (b && (c || (d && (e || (f && k)))))) ≡ false
      lower a b c d e f true true gives is = is
      lower a b c d e f true false gives is = weaker a b c d e f is
      lower a b c d e f false true gives is = absurd (false≢true (gives refl))
      lower a b c d e f false false gives is = is

  -- a move between two others of one pair is of that pair
  pub between_pair : (from to g k : ℕ) (b : Move) → beats m p cs (move_of from to g) b ≡ true → beats m p cs b (move_of from to k) ≡ true → (b.from ≡ from) × (b.to ≡ to)
  unfolding beats
  between_pair from to g k b low high =
      let x = of (move_of from to g) in
      let first = lex_between (int_lt (of b) x) (int_lt x (of b)) (int_eq x (of b)) (int_eq (of b) x) (precedes (move_of from to g) b) (precedes b (move_of from to k)) (znot_both x (of b)) (znot_less x (of b)) (znot_more x (of b)) low high in
      let second = lex_between (nat_lt from b.from) (nat_lt b.from from) (eqb from b.from) (eqb b.from from) _ _ (not_both from b.from) (not_less from b.from) (not_more from b.from) first.1 first.2 in
      let third = lex_between (nat_lt to b.to) (nat_lt b.to to) (eqb to b.to) (eqb b.to to) _ _ (not_both to b.to) (not_less to b.to) (not_more to b.to) second.1 second.2 in
      (sym (is_equal from b.from second.0), sym (is_equal to b.to third.0))
