-- A pool that a change does not touch as a whole: what is kept of its table.
use Rattle.std.proofs.Common.{◌≡◌, ◌∙◌, refl, sym, ap, subst, ℕ, ◌+◌, ◌<◌, ◌≤◌, Bool, true, false, eqb, List, [], ◌∷◌, length, get_or, map, set, Option, Some, None, IsSome, inl, inr, arith}
use mathlib.Core.Bool.{false≢true}
use Rattle.std.specs.Prelude.{slice_get, is_some, position, nat_lt}
use Rattle.std.specs.List.{All, AllPairs, list_any, find, filter, count_by, range_with_len, position_or_len}
use Rattle.std.specs.Option.{option_map}
use Rattle.std.proofs.lemmas.Bool.{cases_Bool, eqb-true, lt-ltb, false_from_ne_true}
use Rattle.std.proofs.lemmas.Bool.Decides.{nat_tests}
use Rattle.std.proofs.lemmas.List.{length-set, length-map, get_or-map, get_or-set_same, get_or-set_other}
use Rattle.std.proofs.lemmas.List.Elements.{All-map, All-filter}
use Rattle.std.proofs.lemmas.List.Kept.{AllPairs-filter}
use Rattle.std.proofs.lemmas.List.Folds.{list_any_at, find_at}
use Rattle.std.proofs.lemmas.List.FromFn.{length-range_with_len, length-map-range_with_len, get_or-range_with_len, get_or-map-range_with_len}
use Rattle.std.proofs.lemmas.List.Sums.{length-filter, sum_by-cons}
use Rattle.std.proofs.lemmas.Option.{slice_get_within, slice_get-get_or, get_or_from_slice_get}
use Rattle.grouptable.specs.Sets.{GroupSets, sets_after}
use Rattle.grouptable.specs.declared.table.GroupPatch.{GroupPatch}
use Rattle.maptypes.specs.Sets.{Places}
use Rattle.grouptable.proofs.Changes.{length-sets_after}
use Rattle.maptypes.specs.declared.change.ChangeParts.{ChangeParts}
use Rattle.maptypes.specs.Pools.{PoolFacts}
use Rattle.osdmap.specs.Maps.{ClusterMap, pool_at, HoldsTogether}
use Rattle.osdmap.proofs.Fitting.{mapped_fits, pool_within}
use Rattle.osdmap.specs.Evals.{is_touched, concerns, is_evaluated}
use Rattle.osdmap.specs.Placement.{group_of, mapped_set}
use Rattle.osdmap.proofs.OthersStay.{others_stay, pool_there}
use Rattle.pgtable.specs.declared.pool_table.PoolTable.{PoolTable}
use Rattle.pgtable.specs.Tables.{TableFacts, sets_of, pool_table, IsTableOf, pool_in}
use Rattle.grouptable.specs.Tables.{IsPatchFor}
use Rattle.pgtable.specs.declared.patch.KeptTable.{KeptTable}
use Rattle.pgtable.specs.Patches.{LeadsFrom, KeepsPool, LeadGroups, concerned_numbers, changes_of, evals_in}
use Rattle.pgtable.proofs.Shows.{find_map}
use Rattle.pgtable.proofs.KeptTables.{same_lists}

-- ---- places

-- what can be found has a place
pub position_there : {X : Type 0} (p : X → Bool) (xs : List X) → is_some (find p xs) ≡ true → IsSome (position p xs)
position_there p xs there = by_place (slice_get xs (position_or_len p xs)) refl
  where
    by_place : (x : Option _) → slice_get xs (position_or_len p xs) ≡ x → IsSome (position p xs)
    by_place None is = absurd (false≢true (ap is_some (sym (find_at p xs ∙ is)) ∙ there))
    by_place (Some x) is = rw (lt-ltb _ _ (slice_get_within xs (position_or_len p xs) x is)) refl

-- at that place it stands
pub position_found : {X : Type 0} (p : X → Bool) (xs : List X) (i : ℕ) → position p xs ≡ Some i → slice_get xs i ≡ find p xs
position_found p xs i found = elim (cases_Bool (nat_lt (position_or_len p xs) (length xs))) [
  | inl inside ↦
      let same : Some (position_or_len p xs) ≡ Some i = rw inside at found in
      let is : position_or_len p xs ≡ i = cc in
      rw (← is) (sym (find_at p xs))
  | inr past ↦ let wrong : None ≡ Some i = rw past at found in absurd (cc)
]

-- ---- evaluations

-- all are counted where all pass
count_of_true : (xs : List ℕ) → count_by (λ (n : ℕ). true) xs ≡ length xs
count_of_true [] = refl
count_of_true (x ∷ xs) = rw (sum_by-cons (λ (n : ℕ). 1) x xs, count_of_true xs) (omega arith)

-- a touched pool has an evaluation a group
pub evals_touched : (m : ClusterMap) (c : ChangeParts) (p : PoolFacts) → is_touched m c p ≡ true → evals_in m c p ≡ p.pg_num
evals_touched m c p touched = rw touched (count_of_true (range_with_len 0 p.pg_num) ∙ length-range_with_len 0 p.pg_num)

-- another has one for each group that the change concerns
pub evals_concerned : (m : ClusterMap) (c : ChangeParts) (p : PoolFacts) → is_touched m c p ≡ false → evals_in m c p ≡ length (concerned_numbers m c p)
evals_concerned m c p touched = rw touched (sym (length-filter (λ n. concerns m c (group_of p n)) (range_with_len 0 p.pg_num)))

-- so many as it then changes
pub evals_changes : (m : ClusterMap) (c : ChangeParts) (p : PoolFacts) (cs : List (ℕ × Places)) (n : ℕ) → is_touched m c p ≡ false → cs ≡ changes_of m c p → n ≡ length cs → n ≡ evals_in m c p
evals_changes m c p cs n touched is long = long ∙ ap length is ∙ length-map (concerned_numbers m c p) (λ k. (k, mapped_set m p k)) ∙ sym (evals_concerned m c p touched)

-- ---- changes

-- all of a range is below its end
below : (n : ℕ) → All (λ k. k < n) (range_with_len 0 n)
below n k d inside = let long = length-range_with_len 0 n in rw (get_or-range_with_len 0 n k d (omega arith)) (omega arith)

-- a range rises
rising : (n : ℕ) → AllPairs (λ a b. a < b) (range_with_len 0 n)
rising n i j d less inside =
    let long = length-range_with_len 0 n in
    rw (get_or-range_with_len 0 n i d (omega arith), get_or-range_with_len 0 n j d (omega arith)) (omega arith)

-- the groups of a pool that a change concerns are among its own
pub concerned_within : (m : ClusterMap) (c : ChangeParts) (p : PoolFacts) → All (λ k. k < p.pg_num) (concerned_numbers m c p)
concerned_within m c p = All-filter (λ k. concerns m c (group_of p k)) (λ k. k < p.pg_num) (range_with_len 0 p.pg_num) (below p.pg_num)

-- the changes of a pool are of groups that it has
pub changes_within : (m n : ClusterMap) (c : ChangeParts) (p : PoolFacts) → All (λ e. e.0 < length (sets_of m p)) (changes_of n c p)
changes_within m n c p =
    All-map (λ (e : ℕ × Places). e.0 < length (sets_of m p)) (λ k. (k, mapped_set n p k)) (concerned_numbers n c p)
    (rw (length-map-range_with_len (mapped_set m p) 0 p.pg_num) (concerned_within n c p))

-- they ascend by number
pub changes_ascend : (n : ClusterMap) (c : ChangeParts) (p : PoolFacts) → AllPairs (λ a b. a.0 < b.0) (changes_of n c p)
changes_ascend n c p i j d less inside =
    let long : length (changes_of n c p) ≡ length (concerned_numbers n c p) = length-map (concerned_numbers n c p) (λ k. (k, mapped_set n p k)) in
    let last : j < length (concerned_numbers n c p) = omega (arith, long, inside) in
    let first = get_or-map (λ k. (k, mapped_set n p k)) (concerned_numbers n c p) i 0 d (omega arith) in
    let second = get_or-map (λ k. (k, mapped_set n p k)) (concerned_numbers n c p) j 0 d last in
    rw (first, second) (AllPairs-filter (λ a b. a < b) (λ k. concerns n c (group_of p k)) (range_with_len 0 p.pg_num) (rising p.pg_num) i j 0 less last)

-- no set of them has more places than the pool
pub changes_fit : (n : ClusterMap) (c : ChangeParts) (p : PoolFacts) → HoldsTogether n → pool_at n.pools p.id ≡ Some p → All (λ e. length e.1 ≤ p.size) (changes_of n c p)
changes_fit n c p holds there =
    let limits = pool_within n p holds there in
    All-map (λ (e : ℕ × Places). length e.1 ≤ p.size) (λ k. (k, mapped_set n p k)) (concerned_numbers n c p)
    (λ k d inside. mapped_fits n p (get_or (concerned_numbers n c p) k d) holds there (omega (arith, concerned_within n c p k d inside, limits.groups_most)))

-- each group that is not changed has its set already: then all have theirs after the changes
all_set : (f : ℕ → Places) (ns : List ℕ) (sets : List Places) (k : ℕ) → k < length sets → (list_any (λ n. eqb n k) ns ≡ false → get_or sets k [] ≡ f k) → get_or (sets_after sets (map (λ n. (n, f n)) ns)) k [] ≡ f k
all_set f [] sets k inside same = same refl
all_set f (n ∷ ns) sets k inside same =
    all_set f ns (set sets n (f n)) k (omega (arith, length-set sets n (f n))) (λ others. elim (cases_Bool (eqb n k)) [
      | inl here ↦ let e = eqb-true n k here in rw e (get_or-set_same sets k (f k) [] inside)
      | inr other ↦ get_or-set_other sets n k (f n) [] (λ e. grind (arith, nat_tests)) ∙ same (rw (other, others) refl)
    ])

-- a number that passes is among those that pass
any_passes : (p q : ℕ → Bool) (xs : List ℕ) → ((x : ℕ) → p x ≡ true → q x ≡ true) → list_any p xs ≡ true → list_any p (filter q xs) ≡ true
any_passes p q [] passes any = any
any_passes p q (x ∷ xs) passes any = elim (cases_Bool (p x)) [
  | inl here ↦ rw (passes x here, here) refl
  | inr other ↦
      let rest = any_passes p q xs passes (rw other at any) in
      elim (cases_Bool (q x)) [ inl stays ↦ rw (stays, other) rest | inr goes ↦ rw goes rest ]
]

-- a number that passes is among those that do
pub among : (q : ℕ → Bool) (n k : ℕ) → k < n → q k ≡ true → list_any (λ x. eqb x k) (filter q (range_with_len 0 n)) ≡ true
among q n k inside passes =
    any_passes (λ x. eqb x k) q (range_with_len 0 n) (λ x same. rw (eqb-true x k same) passes)
    (list_any_at (λ x. eqb x k) (range_with_len 0 n) k 0 (omega (arith, length-range_with_len 0 n)) (rw (get_or-range_with_len 0 n k 0 inside) (grind (arith, nat_tests))))

-- ---- what stays

module _ (m after : ClusterMap) (c : ChangeParts) (p : PoolFacts) (leads : LeadsFrom m c after) (there : pool_at after.pools p.id ≡ Some p) (touched : is_touched after c p ≡ false) where
  pub pool_was_there : pool_at m.pools p.id ≡ Some p
  pool_was_there = (pool_there m (record { epoch = m.epoch + 1; change = c }) p (rw leads.is at there) (rw leads.is at touched)).1

  -- a group whose exceptions the change does not concern keeps its mapped set
  pub stays_there : (k : ℕ) → k < p.pg_num → concerns after c (group_of p k) ≡ false → mapped_set m p k ≡ mapped_set after p k
  stays_there k inside quiet =
      let none : is_evaluated after c p k ≡ false = rw (touched, quiet) refl in
      rw leads.is (others_stay m (record { epoch = m.epoch + 1; change = c }) p k leads.holds leads.lawful (rw leads.is at there) inside (rw leads.is at none)).1

  pub sets_kept : sets_after (sets_of m p) (changes_of after c p) ≡ sets_of after p
  sets_kept =
      let long = length-map-range_with_len (mapped_set m p) 0 p.pg_num in
      let after_long = length-map-range_with_len (mapped_set after p) 0 p.pg_num in
      let changed_long = length-sets_after (sets_of m p) (changes_of after c p) in
      same_lists (sets_after (sets_of m p) (changes_of after c p)) (sets_of after p) (changed_long ∙ long ∙ sym after_long) (λ k inside.
      let few : k < p.pg_num = omega arith in
      slice_get-get_or (sets_after (sets_of m p) (changes_of after c p)) k [] inside
      ∙ ap (λ x. Some x) (all_set (mapped_set after p) (concerned_numbers after c p) (sets_of m p) k (omega arith) (λ others.
      let quiet : concerns after c (group_of p k) ≡ false = false_from_ne_true _ (λ loud. absurd (false≢true (sym others ∙ among (λ n. concerns after c (group_of p n)) p.pg_num k few loud))) in
      get_or-map-range_with_len (mapped_set m p) 0 p.pg_num k k [] few (omega arith) ∙ stays_there k few quiet))
      ∙ sym (slice_get-get_or (sets_of after p) k [] (omega arith) ∙ ap (λ x. Some x) (get_or-map-range_with_len (mapped_set after p) 0 p.pg_num k k [] few (omega arith))))

  -- a pool of which no group gets another set
  pub lead_none : (groups : GroupSets) (cs : List (ℕ × Places)) → groups ≡ (pool_table m p).groups → cs ≡ changes_of after c p → cs ≡ [] → LeadGroups after p groups None
  lead_none groups cs is made none =
      let same : sets_of m p ≡ sets_of after p = subst (λ (xs : List (ℕ × Places)). sets_after (sets_of m p) xs ≡ sets_of after p) (sym made ∙ none) sets_kept in
      record { fits = tt; sets = is ∙ ap (λ sets. record { width = p.size; sets = sets }) same }

  -- a pool of which some do
  pub lead_some : (groups : GroupSets) (patch : GroupPatch) → groups ≡ (pool_table m p).groups → patch.changes.items ≡ changes_of after c p → IsPatchFor groups patch → LeadGroups after p groups (Some patch)
  lead_some groups patch is made fits =
      record { fits = fits; sets = rw (is, made) (ap (λ sets. record { width = p.size; sets = sets }) sets_kept) }

  -- the pool's table was there before the change
  pub table_was_there : (t : TableFacts) → IsTableOf t m → pool_in t p.id ≡ Some (pool_table m p)
  table_was_there t is = rw (is.pools, find_map (λ (q : PoolTable). eqb q.pool.id p.id) (pool_table m) m.pools) (ap (option_map (pool_table m)) pool_was_there)

  -- the pool's table at its position
  module _ (t : TableFacts) (is : IsTableOf t m) (at : ℕ) (found : slice_get t.pools at ≡ pool_in t p.id) where
    pub at_place : slice_get t.pools at ≡ Some (pool_table m p)
    at_place = found ∙ table_was_there t is

    -- with the sets of the map before the change
    pub groups_there : (q : PoolTable) → q ≡ get_or t.pools at q → q.groups ≡ (pool_table m p).groups
    groups_there q here = ap (λ (r : PoolTable). r.groups) (here ∙ get_or_from_slice_get t.pools at (pool_table m p) q at_place)

    -- what is kept of it, with other sets for the groups that the change concerns
    pub keeps_pool : (q : PoolTable) (k : KeptTable) → k.at ≡ at → q ≡ get_or t.pools at q → LeadGroups after p q.groups k.patch → KeepsPool t.pools after p k
    keeps_pool q k placed here lead =
        let there : slice_get t.pools k.at ≡ Some (pool_table m p) = rw placed at_place in
        let same : q ≡ pool_table m p = here ∙ get_or_from_slice_get t.pools at (pool_table m p) q at_place in
        record {
          fits = record {
            inside = slice_get_within t.pools k.at (pool_table m p) there;
            patch = rw there (rw same at lead.fits);
          };
          id = rw there refl;
          sets = rw there (rw same at lead.sets);
        }
