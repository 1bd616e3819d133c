-- How many groups pools have together, where some come and some grow.
use Rattle.std.proofs.Common.{◌≡◌, ◌∙◌, sym, refl, arith, ℕ, ◌+◌, ◌≤◌, ◌==◌, Bool, true, false, not, List, [], ◌∷◌, map, length, inl, inr}
use mathlib.Core.Bool.{false≢true}
use Rattle.std.specs.Prelude.{nat_le}
use Rattle.std.specs.List.{list_all, list_any, filter, fold, sum_by}
use Rattle.std.proofs.lemmas.Bool.{cases_Bool, cases_order, ne_eqb, eqb-true, eq-eqb}
use Rattle.std.proofs.lemmas.Bool.Decides.{nat_tests}
use Rattle.std.proofs.lemmas.List.Sums.{sum_by-cons}
use Rattle.maptypes.specs.declared.change.ChangeParts.{ChangeParts}
use Rattle.maptypes.specs.Growth.{Growth, with_growths}
use Rattle.maptypes.specs.Pools.{PoolFacts, total_groups}
use Rattle.maptypes.proofs.Totals.{sum_by-map}
use Rattle.keylist.specs.Keys.{is_distinct, has_key}
use Rattle.keylist.specs.Puts.{put}
use Rattle.keylist.proofs.Tests.{and_first, and_second, not_true}
use Rattle.keylist.proofs.KeyedMaps.{has-put}
use Rattle.keylist.proofs.KeyedPuts.{put_past, put_before}
use Rattle.osdmap.specs.Maps.{ClusterMap}
use Rattle.osdmap.specs.Changes.{pools_kept, pools_there, pools_after, brings_new, leaves_few_groups}

module _ {X : Type 0} (key : X → ℕ) (f : X → ℕ) where
  -- an entry of a key that is not there adds its own
  sum-put : (xs : List X) (e : X) → has_key key xs (key e) ≡ false → sum_by f (put key xs e) ≡ sum_by f xs + f e
  unfolding put
  sum-put [] e new = sum_by-cons f e [] ∙ omega arith
  sum-put (x ∷ xs) e new = elim (cases_order (key x) (key e)) [
    | inl same ↦ let there : (key x == key e) ≡ true = eq-eqb (key x) (key e) same in let bad : false ≡ true = sym new ∙ rw there refl in absurd (false≢true bad)
    | inr (inl below) ↦
        let other : (key x == key e) ≡ false = ne_eqb (key x) (key e) (λ same. omega (arith, same, below)) in
        let rest : has_key key xs (key e) ≡ false = rw other at new in
        rw (put_past key x xs e below, sum_by-cons f x (put key xs e), sum-put xs e rest, sum_by-cons f x xs) (omega arith)
    | inr (inr above) ↦ rw (put_before key x xs e above, sum_by-cons f e (x ∷ xs)) (omega arith)
  ]

  -- what is not there is not there once an entry of another key has come
  still-apart : (xs es : List X) (e : X) → list_any (λ j. j == key e) (map key es) ≡ false → list_all (λ d. not (has_key key xs (key d))) es ≡ true
      → list_all (λ d. not (has_key key (put key xs e) (key d))) es ≡ true
  still-apart xs [] e none apart = refl
  still-apart xs (d ∷ ds) e none apart = elim (cases_Bool (key d == key e)) [
    | inl same ↦ let bad : true ≡ false = (sym (rw same refl)) ∙ none in absurd (cc)
    | inr other ↦
        let back : (key e == key d) ≡ false = ne_eqb (key e) (key d) (λ same. let bad : true ≡ false = sym (eq-eqb (key d) (key e) (sym same)) ∙ other in absurd (cc)) in
        let rest : list_any (λ j. j == key e) (map key ds) ≡ false = rw other at none in
        let here = and_first (not (has_key key xs (key d))) (list_all (λ c. not (has_key key xs (key c))) ds) apart in
        let more = and_second (not (has_key key xs (key d))) (list_all (λ c. not (has_key key xs (key c))) ds) apart in
        rw (has-put key xs e (key d), back, not_true _ here, still-apart xs ds e rest more) refl
  ]

  -- entries of keys that are not there, of which none stands twice, add theirs
  sum-puts : (xs es : List X) → is_distinct (map key es) ≡ true → list_all (λ e. not (has_key key xs (key e))) es ≡ true
      → sum_by f (fold (put key) xs es) ≡ sum_by f xs + sum_by f es
  unfolding is_distinct
  sum-puts xs [] once apart = omega arith
  sum-puts xs (e ∷ es) once apart =
      let none = not_true _ (and_first (not (list_any (λ j. j == key e) (map key es))) (is_distinct (map key es)) once) in
      let rest = and_second (not (list_any (λ j. j == key e) (map key es))) (is_distinct (map key es)) once in
      let here = not_true _ (and_first (not (has_key key xs (key e))) (list_all (λ d. not (has_key key xs (key d))) es) apart) in
      let more = and_second (not (has_key key xs (key e))) (list_all (λ d. not (has_key key xs (key d))) es) apart in
      rw (sum-puts (put key xs e) es rest (still-apart xs es e none more), sum-put xs e here, sum_by-cons f e es) (omega arith)

-- the groups of pools that have grown
abbrev grown_groups : List Growth → PoolFacts → ℕ
grown_groups gs p = (with_growths gs p).pg_num

-- they are theirs once they have grown
with_growths-total : (gs : List Growth) (ps : List PoolFacts) → total_groups (map (with_growths gs) ps) ≡ sum_by (grown_groups gs) ps
with_growths-total gs ps = sum_by-map (λ (q : PoolFacts). q.pg_num) (with_growths gs) ps

-- where no pool comes twice, the pools after a change have the groups of those that stay and of those that come
pub total_after : (m : ClusterMap) (c : ChangeParts) → brings_new m c ≡ true → is_distinct (map (λ p. p.id) c.pools.come) ≡ true
    → total_groups (pools_after m c) ≡ total_groups (map (with_growths c.pools.grow) (pools_kept m c)) + total_groups (map (with_growths c.pools.grow) c.pools.come)
unfolding pools_after pools_there brings_new
total_after m c new once =
    with_growths-total c.pools.grow (fold (put (λ (p : PoolFacts). p.id)) (pools_kept m c) c.pools.come)
    ∙ sum-puts (λ (p : PoolFacts). p.id) (grown_groups c.pools.grow) (pools_kept m c) c.pools.come once new
    ∙ rw (with_growths-total c.pools.grow (pools_kept m c), with_growths-total c.pools.grow c.pools.come) refl

-- a change of which no key stands twice leaves so few
pub few-groups-after : (m : ClusterMap) (c : ChangeParts) → leaves_few_groups m c ≡ true → is_distinct (map (λ p. p.id) c.pools.come) ≡ true
    → total_groups (pools_after m c) ≤ 1048576
unfolding leaves_few_groups
few-groups-after m c few once = let fits : nat_le (total_groups (pools_after m c)) 1048576 ≡ true = rw once at few in grind (arith, nat_tests, fits)

-- ---- without pools that come or grow

-- a list without some entries does not add up to more
sum-filter : {X : Type 0} (f : X → ℕ) (p : X → Bool) (xs : List X) → sum_by f (filter p xs) ≤ sum_by f xs
sum-filter f p [] = omega arith
sum-filter f p (x ∷ xs) = elim (cases_Bool (p x)) [
  | inl stays ↦ rw (stays, sum_by-cons f x (filter p xs), sum_by-cons f x xs) (omega (arith, sum-filter f p xs))
  | inr goes ↦ rw (goes, sum_by-cons f x xs) (omega (arith, sum-filter f p xs))
]

-- a list of length 0 is empty
pub empty : {X : Type 0} (xs : List X) (b : Bool) → b ≡ (length xs == 0) → b ≡ true → xs ≡ []
empty [] b is true_is = refl
empty (x ∷ xs) b is true_is = let none : length (x ∷ xs) ≡ 0 = eqb-true _ _ (sym is ∙ true_is) in absurd (omega (arith, none))

-- where none grows, all stay as they are
none-with_growths : (ps : List PoolFacts) → map (with_growths []) ps ≡ ps
unfolding with_growths
none-with_growths [] = refl
none-with_growths (p ∷ ps) = rw (none-with_growths ps) refl

-- where none comes or grows, there are as few groups as before
pub few_stay : (m : ClusterMap) (c : ChangeParts) → c.pools.come ≡ [] → c.pools.grow ≡ [] → total_groups m.pools ≤ 1048576 → leaves_few_groups m c ≡ true
unfolding leaves_few_groups pools_after pools_there pools_kept is_distinct
few_stay m c none same few =
    let less = sum-filter (λ (p : PoolFacts). p.pg_num) (λ p. not (has_key (λ (id : ℕ). id) c.pools.gone p.id)) m.pools in
    rw (none, same, none-with_growths (filter (λ p. not (has_key (λ (id : ℕ). id) c.pools.gone p.id)) m.pools)) (grind (arith, nat_tests, few, less))
