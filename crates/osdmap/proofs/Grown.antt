-- Pools that have grown: they keep their ids, kinds, rules and sizes, and have no fewer groups.
use Rattle.std.proofs.Common.{◌≡◌, ◌∙◌, ℕ, ◌<◌, ◌≤◌, Bool, true, false, List, [], ◌∷◌, map, reverse, Option, Some, None, refl, arith, nat_lt, ◌==◌, eqb, inl, inr}
use mathlib.Core.Bool.{false≢true}
use Rattle.std.specs.List.{All, list_all}
use Rattle.std.specs.Option.{option_map, option_map_or}
use Rattle.std.proofs.lemmas.Bool.{cases_Bool, eqb-true}
use Rattle.std.proofs.lemmas.Bool.Decides.{nat_tests}
use Rattle.std.proofs.lemmas.List.Elements.{All-cons, All-head, All-tail}
use Rattle.keylist.specs.Keys.{entry_at}
use Rattle.keylist.specs.Order.{IsRising}
use Rattle.keylist.proofs.Counts.{find-place}
use Rattle.keylist.proofs.Each.{list_all-at}
use Rattle.keylist.proofs.Distinct.{list_all-moved}
use Rattle.keylist.proofs.KeyedOrder.{rising_head, rising_tail, rising_from}
use Rattle.std.proofs.lemmas.List.Sorted.{IsPermutation-reverse, All-permutation}
use Rattle.maptypes.specs.declared.exception.Exception.{Exception}
use Rattle.maptypes.specs.declared.pg.Pg.{Pg}
use Rattle.maptypes.specs.declared.rules.NumberedRule.{NumberedRule}
use Rattle.maptypes.specs.Exceptions.{has_group, says_soundly, is_sound, is_exception}
use Rattle.maptypes.specs.Growth.{Growth, IsGrowth, with_growths, with_growth}
use Rattle.maptypes.specs.Pools.{PoolFacts, IsWithinLimits}
use Rattle.osdmap.specs.Maps.{has_rule}
use Rattle.osdmap.specs.Changes.{grows_from}

-- a pool that has grown, by whether some growth is of it
by_growth : (gs : List Growth) (P : PoolFacts → Type 0) (p : PoolFacts) → (entry_at (λ g. g.pool) (reverse gs) p.id ≡ None → P p)
    → ((g : Growth) → entry_at (λ g. g.pool) (reverse gs) p.id ≡ Some g → P (with_growth p g)) → P (with_growths gs p)
unfolding with_growths
by_growth gs P p stays grows = by_entry (entry_at (λ g. g.pool) (reverse gs) p.id) refl
  where
    by_entry : (o : Option Growth) → entry_at (λ g. g.pool) (reverse gs) p.id ≡ o → P (option_map_or (with_growth p) o p)
    by_entry None is = stays is
    by_entry (Some g) is = grows g is

-- ---- what stays

-- growing keeps a pool's id
pub with_growths-id : (gs : List Growth) (p : PoolFacts) → (with_growths gs p).id ≡ p.id
with_growths-id gs p = by_growth gs (λ q. q.id ≡ p.id) p (λ none. refl) (λ g some. refl)

-- and its size
pub with_growths-size : (gs : List Growth) (p : PoolFacts) → (with_growths gs p).size ≡ p.size
with_growths-size gs p = by_growth gs (λ q. q.size ≡ p.size) p (λ none. refl) (λ g some. refl)

-- and its rule
pub with_growths-ruled : (gs : List Growth) (rules : List NumberedRule) (p : PoolFacts) → has_rule rules (with_growths gs p) ≡ has_rule rules p
with_growths-ruled gs rules p = by_growth gs (λ q. has_rule rules q ≡ has_rule rules p) p (λ none. refl) (λ g some. refl)

-- ---- look-ups

-- what keeps keys is found by them
entry_mapped : {X : Type 0} (key : X → ℕ) (f : X → X) → ((x : X) → key (f x) ≡ key x) → (xs : List X) (k : ℕ) → entry_at key (map f xs) k ≡ option_map f (entry_at key xs k)
entry_mapped key f same [] k = refl
entry_mapped key f same (x ∷ xs) k = elim (cases_Bool (key x == k)) [
  | inl here ↦ rw (same x, here) refl
  | inr other ↦ rw (same x, other) (entry_mapped key f same xs k)
]

-- a grown pool is found by its id
pub entry-with_growths : (gs : List Growth) (ps : List PoolFacts) (id : ℕ) → entry_at (λ p. p.id) (map (with_growths gs) ps) id ≡ option_map (with_growths gs) (entry_at (λ p. p.id) ps id)
entry-with_growths gs ps id = entry_mapped (λ (p : PoolFacts). p.id) (with_growths gs) (with_growths-id gs) ps id

-- grown pools have their rules where the pools had
pub list_all-with_growths : (gs : List Growth) (rules : List NumberedRule) (ps : List PoolFacts) → list_all (has_rule rules) (map (with_growths gs) ps) ≡ list_all (has_rule rules) ps
list_all-with_growths gs rules [] = refl
list_all-with_growths gs rules (p ∷ ps) = rw (with_growths-ruled gs rules p, list_all-with_growths gs rules ps) refl

-- growing leaves the ids above a bound
above_grown : (gs : List Growth) (k : ℕ) (ps : List PoolFacts) → All (λ p. k < p.id) ps → All (λ p. k < p.id) (map (with_growths gs) ps)
above_grown gs k [] all = all
above_grown gs k (p ∷ ps) all =
    All-cons (λ q. k < q.id) (with_growths gs p) (map (with_growths gs) ps) (rw (with_growths-id gs p) (All-head (λ q. k < q.id) p ps all)) (above_grown gs k ps (All-tail (λ q. k < q.id) p ps all))

-- so the pools rise still
pub rising-with_growths : (gs : List Growth) (ps : List PoolFacts) → IsRising (λ p. p.id) ps → IsRising (λ p. p.id) (map (with_growths gs) ps)
rising-with_growths gs [] rises = rises
rising-with_growths gs (p ∷ ps) rises =
    rising_from (λ (q : PoolFacts). q.id) (with_growths gs p) (map (with_growths gs) ps)
    (rw (with_growths-id gs p) (above_grown gs p.id ps (rising_head (λ (q : PoolFacts). q.id) p ps rises)))
    (rising-with_growths gs ps (rising_tail (λ (q : PoolFacts). q.id) p ps rises))

-- ---- limits

-- a growth that is found is one of them, and of that pool
found_growth : (gs : List Growth) (id : ℕ) (g : Growth) (p : Growth → Bool) → list_all p gs ≡ true → entry_at (λ h. h.pool) (reverse gs) id ≡ Some g → (p g ≡ true) × (g.pool ≡ id)
found_growth gs id g p all found =
    let at = find-place (λ (h : Growth). eqb h.pool id) (reverse gs) g found in
    (rw at.2 at (list_all-at p (reverse gs) at.0 g at.1 (list_all-moved p gs (reverse gs) (IsPermutation-reverse gs) ∙ all)), eqb-true g.pool id at.3)

-- every growth of which all are lawful
found_lawful : (gs : List Growth) (id : ℕ) (g : Growth) → All IsGrowth gs → entry_at (λ h. h.pool) (reverse gs) id ≡ Some g → IsGrowth g
found_lawful gs id g all found =
    let at = find-place (λ (h : Growth). eqb h.pool id) (reverse gs) g found in
    rw at.2 at (All-permutation IsGrowth gs (reverse gs) (IsPermutation-reverse gs) all at.0 g at.1)

-- growths within the limits leave pools within them
pub within-with_growths : (gs : List Growth) (ps : List PoolFacts) → All IsGrowth gs → All IsWithinLimits ps → All IsWithinLimits (map (with_growths gs) ps)
within-with_growths gs [] lawful within = within
within-with_growths gs (p ∷ ps) lawful within =
    All-cons IsWithinLimits (with_growths gs p) (map (with_growths gs) ps)
    (by_growth gs IsWithinLimits p (λ none. All-head IsWithinLimits p ps within) (λ g some. grown_within p g (All-head IsWithinLimits p ps within) (found_lawful gs p.id g lawful some)))
    (within-with_growths gs ps lawful (All-tail IsWithinLimits p ps within))
  where
    grown_within : (q : PoolFacts) (g : Growth) → IsWithinLimits q → IsGrowth g → IsWithinLimits (with_growth q g)
    grown_within q g old new = record {
      id_some = old.id_some;
      id_most = old.id_most;
      groups_some = new.groups_some;
      groups_few = new.groups_few;
      groups_most = new.groups_most;
      rule_most = old.rule_most;
      size_some = old.size_some;
      size_most = old.size_most;
    }

-- ---- groups and exceptions

module _ (gs : List Growth) (ps : List PoolFacts) (grow : list_all (grows_from ps) gs ≡ true) where
  -- the pool of an id, where it is there, has no fewer groups
  more_groups : (id : ℕ) (p : PoolFacts) → entry_at (λ q. q.id) ps id ≡ Some p → p.pg_num ≤ (with_growths gs p).pg_num
  unfolding grows_from
  more_groups id p there = by_growth gs (λ q. p.pg_num ≤ q.pg_num) p (λ none. omega arith) (λ g some.
      let at = find-place (λ (q : PoolFacts). eqb q.id id) ps p there in
      let own : p.id ≡ id = eqb-true p.id id at.3 in
      let found = found_growth gs p.id g (grows_from ps) grow some in
      let test = rw (found.1 ∙ own, there) at found.0 in
      grind (arith, nat_tests, test))

  pub group_grows : (g : Pg) → has_group ps g ≡ true → has_group (map (with_growths gs) ps) g ≡ true
  group_grows g h = rw (entry-with_growths gs ps g.pool) (by_pool (entry_at (λ q. q.id) ps g.pool) refl h)
    where
      by_pool : (o : Option PoolFacts) → entry_at (λ q. q.id) ps g.pool ≡ o → option_map_or (λ p. nat_lt g.number p.pg_num) o false ≡ true
          → option_map_or (λ p. nat_lt g.number p.pg_num) (option_map (with_growths gs) o) false ≡ true
      by_pool None is there = absurd (false≢true there)
      by_pool (Some p) is there = grind (arith, nat_tests, there, more_groups g.pool p is)

  module _ {E : Type 0} (names : E → List ℕ) (sound : List E → Bool) (exists : ℕ → Bool) where
    sound_grown : (e : Exception E) → is_sound sound (map (with_growths gs) ps) e ≡ is_sound sound ps e
    sound_grown e = rw (entry-with_growths gs ps e.pg.pool) (by_pool (entry_at (λ q. q.id) ps e.pg.pool))
      where
        by_pool : (o : Option PoolFacts) → option_map_or (λ p. says_soundly sound p e) (option_map (with_growths gs) o) false ≡ option_map_or (λ p. says_soundly sound p e) o false
        by_pool None = refl
        by_pool (Some p) = rw (with_growths-size gs p) refl

    pub exception_grows : (e : Exception E) → is_exception names sound ps exists e ≡ true → is_exception names sound (map (with_growths gs) ps) exists e ≡ true
    exception_grows e h = grind (arith, sound_grown e, group_grows e.pg, h)
