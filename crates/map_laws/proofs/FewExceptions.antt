-- How many groups, and so exceptions, there can be: one for each group of each pool.
use Rattle.std.proofs.Common.{◌≡◌, ℕ, ◌+◌, ◌*◌, ◌^◌, ◌<◌, ◌≤◌, Bool, true, false, not, eqb, List, [], ◌∷◌, length, get_or, refl, arith}
use mathlib.Core.Bool.{false≢true}
use Rattle.std.specs.Prelude.{nat_lt}
use Rattle.std.specs.List.{filter, All}
use Rattle.std.proofs.lemmas.Bool.{eqb-true}
use Rattle.std.proofs.lemmas.Bool.Decides.{nat_tests}
use Rattle.std.proofs.lemmas.List.Elements.{All-head, All-tail, All-weaker, All-filter, filter_passes}
use Rattle.std.proofs.lemmas.List.Filters.{length-filter_both}
use Rattle.std.proofs.lemmas.List.Sums.{sum_by-cons}
use Rattle.maptypes.specs.declared.exception.Exception.{Exception}
use Rattle.maptypes.specs.declared.pg.Pg.{Pg}
use Rattle.maptypes.specs.Pools.{PoolFacts, total_groups, IsWithinLimits}
use Rattle.keylist.specs.Order.{IsRising}
use Rattle.maptypes.specs.Exceptions.{pg_key, key_of, has_group}
use Rattle.keylist.proofs.Tests.{not_true}
use Rattle.keylist.proofs.KeyedOrder.{rising_head, rising_tail, rising-filter}

-- rising keys from `low` to below `high` are no more than there are numbers
pub rising_room : {X : Type 0} (key : X → ℕ) (low high : ℕ) (xs : List X) → IsRising key xs → All (λ x. low ≤ key x) xs → All (λ x. key x < high) xs → low ≤ high → low + length xs ≤ high
rising_room key low high [] rises least most order = omega arith
rising_room key low high (x ∷ xs) rises least most order =
    let first = All-head (λ y. low ≤ key y) x xs least in
    let below = All-head (λ y. key y < high) x xs most in
    let above = All-weaker (λ y. key x < key y) (λ y. low + 1 ≤ key y) (λ y over. omega (arith, first, over)) xs (rising_head key x xs rises) in
    let rest = rising_room key (low + 1) high xs (rising_tail key x xs rises) above (All-tail (λ y. key y < high) x xs most) (omega (arith, first, below)) in
    omega (arith, rest)

-- a group of the first pool, and one of another
group_here : (p : PoolFacts) (ps : List PoolFacts) (g : Pg) → eqb p.id g.pool ≡ true → has_group (p ∷ ps) g ≡ true → g.number < p.pg_num
group_here p ps g same there =
    let test : nat_lt g.number p.pg_num ≡ true = rw same at there in
    grind (arith, nat_tests, test)

-- a group that is there and not of the first pool is of one of the others
pub group_there : (p : PoolFacts) (ps : List PoolFacts) (g : Pg) → eqb p.id g.pool ≡ false → has_group (p ∷ ps) g ≡ true → has_group ps g ≡ true
group_there p ps g other there = rw other at there

-- what is said of groups: exceptions, or the groups themselves
module _ {X : Type 0} (group : X → Pg) where
  abbrev key : X → ℕ
  key x = pg_key (group x)

  abbrev of_pool : PoolFacts → X → Bool
  of_pool p x = eqb p.id (group x).pool

  abbrev IsThere : List PoolFacts → X → Type 0
  IsThere pools x = has_group pools (group x) ≡ true

  -- those of one pool
  few_here : (p : PoolFacts) (ps : List PoolFacts) (xs : List X) → p.pg_num ≤ 65536 → IsRising key xs → All (λ x. of_pool p x ≡ true) xs → All (IsThere (p ∷ ps)) xs → length xs ≤ p.pg_num
  few_here p ps xs few rises same there =
      let least : All (λ (x : X). p.id * 2 ^ 32 ≤ key x) xs = λ k d inside. let is = eqb-true _ _ (same k d inside) in rw is (omega arith) in
      let most : All (λ (x : X). key x < p.id * 2 ^ 32 + p.pg_num) xs = λ k d inside.
      let is = eqb-true _ _ (same k d inside) in
      let number = group_here p ps (group (get_or xs k d)) (same k d inside) (there k d inside) in
      rw is (omega (arith, number, few))
      in
      let room = rising_room key (p.id * 2 ^ 32) (p.id * 2 ^ 32 + p.pg_num) xs rises least most (omega arith) in
      omega (arith, room)

  -- those of all pools
  pub few_groups : (pools : List PoolFacts) (xs : List X) → All IsWithinLimits pools → IsRising key xs → All (IsThere pools) xs → length xs ≤ total_groups pools
  few_groups [] [] within rises there = omega arith
  few_groups [] (x ∷ xs) within rises there = absurd (false≢true (All-head (IsThere []) x xs there))
  few_groups (p ∷ ps) xs within rises there =
      let test : X → Bool = of_pool p in
      let others : X → Bool = λ x. not (of_pool p x) in
      let both = length-filter_both test others (λ x. refl) xs in
      let first = few_here p ps (filter test xs) (All-head IsWithinLimits p ps within).groups_most (rising-filter key test xs rises) (filter_passes test xs) (All-filter test (IsThere (p ∷ ps)) xs there) in
      let apart = filter_passes others xs in
      let kept = All-filter others (IsThere (p ∷ ps)) xs there in
      let still : All (IsThere ps) (filter others xs) = λ k d inside. group_there p ps (group (get_or (filter others xs) k d)) (not_true _ (apart k d inside)) (kept k d inside) in
      let rest = few_groups ps (filter others xs) (All-tail IsWithinLimits p ps within) (rising-filter key others xs rises) still in
      rw (sum_by-cons (λ (q : PoolFacts). q.pg_num) p ps) (omega (arith, both, first, rest))

-- the exceptions of all pools
pub few_exceptions : {E : Type 0} (pools : List PoolFacts) (es : List (Exception E)) → All IsWithinLimits pools → IsRising key_of es → All (λ e. has_group pools e.pg ≡ true) es → length es ≤ total_groups pools
few_exceptions pools es within rises there = few_groups (λ e. e.pg) pools es within rises there
