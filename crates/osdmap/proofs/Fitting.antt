-- No mapped set has more places than its pool.
use Rattle.std.proofs.Common.{◌≡◌, refl, sym, ap, subst, ◌∙◌, ℕ, suc, ◌+◌, ◌*◌, ◌^◌, ◌<◌, ◌≤◌, Bool, true, false, eqb, List, [], ◌∷◌, map, length, Option, Some, None, All, arith}
use mathlib.Core.Bool.{false≢true}
use Rattle.std.proofs.lemmas.Grind.{common_steps}
use Rattle.std.specs.Prelude.{if◌then◌else◌, nat_lt, nat_le, ◌&&◌, ◌||◌, option_and_then}
use Rattle.std.specs.List.{list_any, fold, find}
use Rattle.std.proofs.lemmas.Bool.{eqb-true}
use Rattle.std.proofs.lemmas.Bool.Decides.{nat_tests}
use Rattle.keylist.proofs.Counts.{find-place}
use Rattle.std.proofs.lemmas.List.{length-map}
use Rattle.keylist.specs.Keys.{entry_at}
use Rattle.keylist.proofs.Tests.{and_first, and_second}
use Rattle.crush.specs.declared.step.RuleKind.{RuleKind}
use Rattle.crush.specs.declared.step.RuleKind.TheVariants.{Replicated, Erasure}
use Rattle.maptypes.specs.declared.pg.Pg.{Pg}
use Rattle.maptypes.specs.declared.exception.Pair.{Pair}
use Rattle.maptypes.specs.declared.exception.Exception.{Exception}
use Rattle.maptypes.specs.Sets.{kept_places, replace, is_of}
use Rattle.maptypes.specs.Pools.{PoolFacts, IsWithinLimits}
use Rattle.maptypes.specs.Exceptions.{pg_key, key_of, said_of, is_exception, is_sound, says_soundly, all_named, has_group, target, is_set}
use Rattle.crush.specs.Run.{run_of}
use Rattle.crush.specs.World.{world_of}
use Rattle.osdmap.specs.Maps.{ClusterMap, pool_at, osd_exists, HoldsTogether}
use Rattle.osdmap.specs.Mapped.{is_weightless, with_pair, with_items, with_exceptions}
use Rattle.osdmap.specs.Placement.{group_of, existing_osd, placed_devices, placement_input, steps_of, raw_set, mapped_set}
use Rattle.osdmap.proofs.PlacementLemmas.{found_passes, short_run}

-- what is found passes
found_is : {X : Type 0} (p : X → Bool) (xs : List X) (x : X) → find p xs ≡ Some x → p x ≡ true
found_is p [] x found = let wrong : None ≡ Some x = found in cc
found_is p (y ∷ ys) x found = grind (arith, common_steps, found_is p ys x)

-- what is kept of places is no longer
kept_short : (kind : RuleKind) (places : List (Option ℕ)) → length (kept_places kind places) ≤ length places
kept_short Replicated [] = omega arith
kept_short Erasure [] = omega arith
kept_short Replicated (None ∷ places) = let rest = kept_short Replicated places in omega (arith, rest)
kept_short Replicated (Some osd ∷ places) = let rest = kept_short Replicated places in omega (arith, rest)
kept_short Erasure (place ∷ places) = let rest = kept_short Erasure places in omega (arith, rest)

-- a pair leaves how many places there are
replaced_long : (pair : Pair) (places : List (Option ℕ)) → length (replace pair places) ≡ length places
unfolding replace
replaced_long pair [] = refl
replaced_long pair (place ∷ places) = by_test (is_of pair.from place) (replaced_long pair places)
  where
    by_test : (b : Bool) → length (replace pair places) ≡ length places → length (if b then Some pair.to ∷ places else place ∷ replace pair places) ≡ suc (length places)
    by_test true long = refl
    by_test false long = ap suc long

-- also where it acts only under conditions
pair_long : (weights : List ℕ) (places : List (Option ℕ)) (pair : Pair) → length (with_pair weights places pair) ≡ length places
unfolding with_pair
pair_long weights places pair = by_test (list_any (is_of pair.to) places || is_weightless weights pair.to)
  where
    by_test : (b : Bool) → length (if b then places else replace pair places) ≡ length places
    by_test true = refl
    by_test false = replaced_long pair places

-- so do some pairs
pairs_long : (weights : List ℕ) (pairs : List Pair) (places : List (Option ℕ)) → length (fold (with_pair weights) places pairs) ≡ length places
pairs_long weights [] places = refl
pairs_long weights (pair ∷ pairs) places = pairs_long weights pairs (with_pair weights places pair) ∙ pair_long weights places pair

-- and those of a group
items_long : (weights : List ℕ) (items : Option (List Pair)) (places : List (Option ℕ)) → length (with_items weights places items) ≡ length places
items_long weights None places = refl
items_long weights (Some pairs) places = pairs_long weights pairs places

-- a raw set has no more places than its pool
raw_short : (m : ClusterMap) (p : PoolFacts) (n : ℕ) → length (raw_set m p n) ≤ p.size
unfolding raw_set placed_devices
raw_short m p n =
    let run = run_of (world_of m.buckets m.weights (placement_input p n)) (steps_of m p) p.size in
    omega (arith, kept_short p.kind (map (option_and_then (existing_osd m)) run), length-map run (option_and_then (existing_osd m)), short_run (world_of m.buckets m.weights (placement_input p n)) (steps_of m p) p.size)

-- nothing is true and false
pub not_both : (b : Bool) → b ≡ true → b ≡ false → ⊥
not_both b h k = false≢true (sym k ∙ h)

-- what is found is one of the list
pub found_of_all : {X : Type 0} (P : X → Type 0) (p : X → Bool) (xs : List X) (x : X) → find p xs ≡ Some x → All P xs → P x
found_of_all P p xs x found all = let at = find-place p xs x found in subst P at.2 (all at.0 x at.1)

-- places of groups are equal only where their pools are
pub same_pool : (p q a b : ℕ) → p * 2 ^ 32 + a ≡ q * 2 ^ 32 + b → a < 2 ^ 32 → b < 2 ^ 32 → p ≡ q
same_pool p q a b e f g = omega arith

-- the number of a group of a map has at most 32 bits
pub few_numbers : (pools : List PoolFacts) (g : Pg) → All IsWithinLimits pools → has_group pools g ≡ true → g.number < 2 ^ 32
few_numbers pools g within has = by_pool (entry_at (λ p. p.id) pools g.pool) refl
  where
    by_pool : (p : Option PoolFacts) → entry_at (λ q. q.id) pools g.pool ≡ p → g.number < 2 ^ 32
    by_pool None found = absurd (not_both _ has (rw found refl))
    by_pool (Some p) found =
        let limits = found_of_all IsWithinLimits (λ q. eqb q.id g.pool) pools p found within in
        let below : nat_lt g.number p.pg_num ≡ true = rw found at has in
        let less : g.number < p.pg_num = grind (arith, nat_tests) in
        omega (arith, less, limits.groups_most)

module _ (m : ClusterMap) (p : PoolFacts) (n : ℕ) (holds : HoldsTogether m) (there : pool_at m.pools p.id ≡ Some p) (below : n < 2 ^ 32) where
  -- nor has an explicit set
  explicit_short : (osds : List ℕ) → said_of m.explicit (group_of p n) ≡ Some osds → length osds ≤ p.size
  explicit_short osds said = by_entry (entry_at key_of m.explicit (pg_key (group_of p n))) refl
    where
      by_entry : (e : Option (Exception ℕ)) → entry_at key_of m.explicit (pg_key (group_of p n)) ≡ e → length osds ≤ p.size
      by_entry None found = let wrong : None ≡ Some osds = rw found at said in absurd (cc)
      by_entry (Some e) found =
          let same : Some e.entries ≡ Some osds = rw found at said in
          let is : e.entries ≡ osds = cc in
          let passes = found_passes _ (is_exception target is_set m.pools (osd_exists m)) m.explicit e found holds.explicit.sound in
          let key : pg_key e.pg ≡ pg_key (group_of p n) = eqb-true _ _ (found_is (λ x. eqb (key_of x) (pg_key (group_of p n))) m.explicit e found) in
          let has = and_first (has_group m.pools e.pg) (all_named target (osd_exists m) e) (and_first (has_group m.pools e.pg && all_named target (osd_exists m) e) (is_sound is_set m.pools e) passes) in
          let id : e.pg.pool ≡ p.id = same_pool e.pg.pool p.id e.pg.number n key (few_numbers m.pools e.pg holds.pools.within has) below in
          let sound : says_soundly is_set p e ≡ true = rw (id, there) at (and_second (has_group m.pools e.pg && all_named target (osd_exists m) e) (is_sound is_set m.pools e) passes) in
          let few : nat_le (length e.entries) p.size ≡ true = and_second (nat_lt 0 (length e.entries)) _ (and_first _ (is_set e.entries) sound) in
          let short : length e.entries ≤ p.size = grind (arith, nat_tests, few) in
          rw is at short

  mapped_by : (explicit : Option (List ℕ)) (raw : List (Option ℕ)) → said_of m.explicit (group_of p n) ≡ explicit → length raw ≤ p.size → length (with_exceptions m.weights explicit (said_of m.items (group_of p n)) raw) ≤ p.size
  unfolding with_exceptions
  mapped_by None raw said short = omega (arith, items_long m.weights (said_of m.items (group_of p n)) raw, short)
  mapped_by (Some osds) raw said short = by_test (list_any (is_weightless m.weights) osds)
    where
      by_test : (b : Bool) → length (if b then raw else with_items m.weights (map (λ osd. Some osd) osds) (said_of m.items (group_of p n))) ≤ p.size
      by_test true = short
      by_test false = omega (arith, items_long m.weights (said_of m.items (group_of p n)) (map (λ osd. Some osd) osds), length-map osds (λ (osd : ℕ). Some osd), explicit_short osds said)

  pub mapped_fits : length (mapped_set m p n) ≤ p.size
  unfolding mapped_set
  mapped_fits = mapped_by (said_of m.explicit (group_of p n)) (raw_set m p n) refl (raw_short m p n)

-- a pool of a map is within its limits
pub pool_within : (m : ClusterMap) (p : PoolFacts) → HoldsTogether m → pool_at m.pools p.id ≡ Some p → IsWithinLimits p
pool_within m p holds there = found_of_all IsWithinLimits (λ q. eqb q.id p.id) m.pools p there holds.pools.within
