-- Tables whose pools all stay in place: other sets for groups of one after another, and these put in.
use Rattle.std.proofs.Common.{◌≡◌, ◌∙◌, refl, sym, ap, subst, ℕ, zero, suc, ◌⊎◌, ◌+◌, ◌-◌, ◌^◌, ◌<◌, ◌≤◌, Bool, true, List, [], ◌∷◌, ◌++◌, get_or, length, map, replicate, take, Option, Some, None, inl, inr, arith}
use Rattle.std.specs.Prelude.{slice_get}
use Rattle.std.specs.List.{zip, sum_by}
use Rattle.std.specs.Option.{option_map}
use Rattle.std.proofs.lemmas.Bool.{cases_lt}
use Rattle.std.proofs.lemmas.List.{append-nil, append_assoc, length-map, length-append, take_all}
use Rattle.std.proofs.lemmas.List.Sums.{sum_by-cons, sum_by_more}
use Rattle.std.proofs.lemmas.Option.{slice_get-map, slice_get_within, get_or_from_slice_get}
use Rattle.grouptable.specs.Sets.{GroupSets}
use Rattle.grouptable.specs.declared.table.GroupPatch.{GroupPatch}
use Rattle.maptypes.specs.declared.change.ChangeParts.{ChangeParts}
use Rattle.maptypes.specs.declared.pg.Pg.{Pg}
use Rattle.maptypes.specs.Pools.{PoolFacts}
use Rattle.osdmap.specs.Maps.{ClusterMap, pool_at, HoldsTogether}
use Rattle.osdmap.specs.Evals.{evals_of}
use Rattle.osdmap.proofs.Fitting.{pool_within}
use Rattle.maptypes.specs.Named.{is_empty}
use Rattle.maptypes.proofs.NamedParts.{LeavesRawSets}
use Rattle.pgtable.proofs.ChangedSets.{pools_stay, none_touched, source_concerned, none_concerned}
use Rattle.pgtable.proofs.Keeping.{evals_changes, lead_none}
use Rattle.pgtable.specs.declared.pool_table.PoolTable.{PoolTable}
use Rattle.pgtable.specs.Tables.{TableFacts, pool_table, tables_of, IsTableOf}
use Rattle.pgtable.specs.Candidates.{IsCandidates}
use Rattle.pgtable.specs.Patches.{changed_map, changes_of, with_sets, concerned_numbers, IsSource, LeadGroups, LeadsFrom, FitGroups, evals_in, with_patch}
use Rattle.pgtable.proofs.KeptTables.{same_lists, long_zip, get_zip}
use Rattle.pgtable.proofs.Found.{found_at}
use Rattle.pgtable.proofs.Making.{element, get_before, get_behind, get_past, evals_whole}

-- ---- all pools

-- what the first pools get
pub record LeadFirst (old : List PoolTable) (m : ClusterMap) (i : ℕ) (patches : List (Option GroupPatch)) : Type 0 where
  pub long : length patches ≡ i
  pub each : (k : ℕ) (q : PoolTable) (one : Option GroupPatch) → slice_get old k ≡ Some q → slice_get patches k ≡ Some one → LeadGroups m q.pool q.groups one

module _ (old : List PoolTable) (m : ClusterMap) where
  -- none so far
  pub lead_begins : (patches : List (Option GroupPatch)) → patches ≡ [] → LeadFirst old m 0 patches
  lead_begins patches none = rw none (record {
    long = refl;
    each = λ k q one there is. let wrong : None ≡ Some one = is in absurd (cc);
  })

  -- and one more
  pub lead_more : (i : ℕ) (q : PoolTable) (patches : List (Option GroupPatch)) (one : Option GroupPatch) → LeadFirst old m i patches → slice_get old i ≡ Some q → LeadGroups m q.pool q.groups one → LeadFirst old m (i + 1) (patches ++ one ∷ [])
  lead_more i q patches one sofar there made =
      let long : length (patches ++ one ∷ []) ≡ length patches + 1 = length-append patches (one ∷ []) in
      record {
        long = omega (arith, long, sofar.long);
        each = λ k r other at is. by_place k r other at is (cases_lt k i);
      }
    where
      by_place : (k : ℕ) (r : PoolTable) (other : Option GroupPatch) → slice_get old k ≡ Some r → slice_get (patches ++ one ∷ []) k ≡ Some other → (k < i) ⊎ (i ≤ k) → LeadGroups m r.pool r.groups other
      by_place k r other at is cases = elim cases [
        | inl before ↦ sofar.each k r other at (sym (get_before patches one k (omega (arith, sofar.long, before))) ∙ is)
        | inr behind ↦
            let last : k ≡ length patches = omega (arith, get_past patches one other k is, sofar.long, behind) in
            let here : k ≡ i = omega (arith, sofar.long) in
            let same : Some one ≡ Some other = sym (get_behind patches one k last) ∙ is in
            let found : Some q ≡ Some r = sym there ∙ (rw here at at) in
            let table : q ≡ r = cc in
            let patch : one ≡ other = cc in
            rw (← table, ← patch) made
      ]

  -- and all of them
  pub lead_ends : (patches : List (Option GroupPatch)) → length old ≡ length m.pools → ((k : ℕ) (q : PoolTable) → slice_get old k ≡ Some q → slice_get m.pools k ≡ Some q.pool) → LeadFirst old m (length old) patches → FitGroups old patches × (map (λ e. with_patch e.0 e.1) (zip old patches) ≡ tables_of m)
  lead_ends patches as_many pools sofar = (
    record {
      same = sofar.long;
      each = λ i q g there is. (sofar.each i q (Some g) there is).fits;
    },
    same_lists (map (λ e. with_patch e.0 e.1) (zip old patches)) (tables_of m) (length-map (zip old patches) (λ e. with_patch e.0 e.1) ∙ long_zip old patches sofar.long ∙ as_many ∙ sym (length-map m.pools (pool_table m)))
        (λ k inside. at k (omega (arith, length-map (zip old patches) (λ e. with_patch e.0 e.1), long_zip old patches sofar.long))),
  )
    where
      at : (k : ℕ) → k < length old → slice_get (map (λ e. with_patch e.0 e.1) (zip old patches)) k ≡ slice_get (tables_of m) k
      at k inside =
          let q = element old k inside in
          let one = element patches k (omega (arith, sofar.long)) in
          slice_get-map (λ e. with_patch e.0 e.1) (zip old patches) k ∙ ap (option_map (λ e. with_patch e.0 e.1)) (get_zip old patches k q.0 one.0 q.1 one.1)
          ∙ ap (λ (groups : GroupSets). Some (record { pool = q.0.pool; groups = groups })) (sofar.each k q.0 one.0 q.1 one.1).sets
          ∙ sym (slice_get-map (pool_table m) m.pools k ∙ ap (option_map (pool_table m)) (pools k q.0 q.1))

-- ---- evaluations

-- those of all pools, by their tables
evals_of_tables : (m n : ClusterMap) (c : ChangeParts) (ps : List PoolFacts) → sum_by (λ (q : PoolTable). evals_in n c q.pool) (map (pool_table m) ps) ≡ sum_by (evals_in n c) ps
evals_of_tables m n c [] = refl
evals_of_tables m n c (p ∷ ps) =
    sum_by-cons (λ (q : PoolTable). evals_in n c q.pool) (pool_table m p) (map (pool_table m) ps) ∙ ap (λ k. evals_in n c p + k) (evals_of_tables m n c ps) ∙ sym (sum_by-cons (evals_in n c) p ps)

-- and so those of the change
pub evals_in_place : (t : TableFacts) (m : ClusterMap) (c : ChangeParts) (i : ℕ) → IsTableOf t m → LeavesRawSets c → length t.pools ≤ i → sum_by (λ (q : PoolTable). evals_in (changed_map m c) c q.pool) (take i t.pools) ≡ evals_of (changed_map m c) c
unfolding evals_of
evals_in_place t m c i is s past =
    let of = λ (q : PoolTable). evals_in (changed_map m c) c q.pool in
    ap (sum_by of) (take_all i t.pools past ∙ is.pools) ∙ evals_of_tables m (changed_map m c) c m.pools ∙ ap (sum_by (evals_in (changed_map m c) c)) (sym (pools_stay m c s))

-- which are few
pub few_in_place : (t : TableFacts) (m : ClusterMap) (c : ChangeParts) → IsTableOf t m → LeavesRawSets c → HoldsTogether (changed_map m c) → sum_by (λ (q : PoolTable). evals_in (changed_map m c) c q.pool) t.pools ≤ 16777216
few_in_place t m c is s holds =
    let of = λ (q : PoolTable). evals_in (changed_map m c) c q.pool in
    let all : sum_by of t.pools ≡ sum_by (evals_in (changed_map m c) c) (changed_map m c).pools =
    ap (sum_by of) is.pools ∙ evals_of_tables m (changed_map m c) c m.pools ∙ ap (sum_by (evals_in (changed_map m c) c)) (sym (pools_stay m c s)) in
    rw all (evals_whole (changed_map m c) c holds)

-- the table of a pool that stands at a position, and the pool in the map
pub table_at : (t : TableFacts) (m : ClusterMap) (i : ℕ) (q : PoolTable) → IsTableOf t m → slice_get t.pools i ≡ Some q → (q ≡ pool_table m q.pool) × (pool_at m.pools q.pool.id ≡ Some q.pool) × (slice_get m.pools i ≡ Some q.pool)
table_at t m i q is at = by_pool (slice_get m.pools i) refl
  where
    tables : option_map (pool_table m) (slice_get m.pools i) ≡ Some q
    tables = sym (slice_get-map (pool_table m) m.pools i) ∙ rw (← is.pools) at

    by_pool : (p : Option PoolFacts) → slice_get m.pools i ≡ p → (q ≡ pool_table m q.pool) × (pool_at m.pools q.pool.id ≡ Some q.pool) × (slice_get m.pools i ≡ Some q.pool)
    by_pool None found = let wrong : None ≡ Some q = rw found at tables in absurd (cc)
    by_pool (Some p) found =
        let same : Some (pool_table m p) ≡ Some q = rw found at tables in
        let e : q ≡ pool_table m p = cc in
        let there = found_at (λ (r : PoolFacts). r.id) m.pools i p is.holds.pools.rise (slice_get_within m.pools i p found) (sym (get_or_from_slice_get m.pools i p p found)) in
        rw e (refl, there, found)

-- so all tables with what they get are those of the map after the change
pub lead_in_place : (t : TableFacts) (m : ClusterMap) (c : ChangeParts) (patches : List (Option GroupPatch)) → IsTableOf t m → LeavesRawSets c → LeadFirst t.pools (changed_map m c) (length t.pools) patches
    → FitGroups t.pools patches × (map (λ e. with_patch e.0 e.1) (zip t.pools patches) ≡ tables_of (changed_map m c))
lead_in_place t m c patches is s sofar =
    lead_ends t.pools (changed_map m c) patches (ap length is.pools ∙ length-map m.pools (pool_table m) ∙ sym (ap length (pools_stay m c s))) (λ k q at. rw (pools_stay m c s) ((table_at t m k q is at).2)) sofar

-- ---- pools of which a change concerns no group

-- what the first pools get, and how many of their groups were evaluated for it
pub record Sofar (old : List PoolTable) (m : ClusterMap) (c : ChangeParts) (i : ℕ) (patches : List (Option GroupPatch)) (count : ℕ) : Type 0 where
  pub made : LeadFirst old m i patches
  pub evals : count ≡ sum_by (λ (q : PoolTable). evals_in m c q.pool) (take i old)

module _ (t : TableFacts) (m : ClusterMap) (c : ChangeParts) (source : ClusterMap) (is_after : Bool) (is : IsTableOf t m) (s : LeavesRawSets c) (leads : LeadsFrom m c (changed_map m c)) (is_source : IsSource m c source is_after) where
  -- it gives none of its groups another set
  quiet_changes : (q : PoolTable) → [] ≡ concerned_numbers source c q.pool → [] ≡ changes_of (changed_map m c) c q.pool
  quiet_changes q none = ap (with_sets (changed_map m c) q.pool) (none ∙ source_concerned m source c q.pool is_after is_source)

  -- so it keeps its sets
  quiet_lead : (k : ℕ) (q : PoolTable) → slice_get t.pools k ≡ Some q → [] ≡ concerned_numbers source c q.pool → LeadGroups (changed_map m c) q.pool q.groups None
  quiet_lead k q at none =
      let here = table_at t m k q is at in
      let there : pool_at (changed_map m c).pools q.pool.id ≡ Some q.pool = rw (pools_stay m c s) here.1 in
      lead_none m (changed_map m c) c q.pool leads there (none_touched (changed_map m c) c q.pool s) q.groups [] (ap (λ (r : PoolTable). r.groups) here.0) (quiet_changes q none) refl

  -- and nothing of it is evaluated
  quiet_evals : (q : PoolTable) → [] ≡ concerned_numbers source c q.pool → evals_in (changed_map m c) c q.pool ≡ 0
  quiet_evals q none = sym (evals_changes (changed_map m c) c q.pool [] 0 (none_touched (changed_map m c) c q.pool s) (quiet_changes q none) refl)

  -- a pool has fewer groups than a key has numbers
  groups_few : (k : ℕ) (q : PoolTable) → slice_get t.pools k ≡ Some q → q.pool.pg_num ≤ 2 ^ 32
  groups_few k q at = omega (arith, (pool_within m q.pool is.holds (table_at t m k q is at).1).groups_most)

  -- such pools stand behind the first ones
  skip : (n i : ℕ) (patches : List (Option GroupPatch)) (evals : ℕ) → i + n ≤ length t.pools → Sofar t.pools (changed_map m c) c i patches evals
      → ((k : ℕ) (q : PoolTable) → i ≤ k → k < i + n → slice_get t.pools k ≡ Some q → [] ≡ concerned_numbers source c q.pool)
      → Sofar t.pools (changed_map m c) c (i + n) (patches ++ replicate n None) evals
  skip zero i patches evals few sofar quiet =
      let same : i + zero ≡ i = omega arith in
      rw (same, append-nil patches) sofar
  skip (suc n) i patches evals few sofar quiet =
      let q = element t.pools i (omega (arith, few)) in
      let none = quiet i q.0 (omega arith) (omega arith) q.1 in
      let sum = sum_by_more (λ (r : PoolTable). evals_in (changed_map m c) c r.pool) t.pools i q.0 (omega (arith, few)) in
      let here = get_or_from_slice_get t.pools i q.0 q.0 q.1 in
      let own : evals_in (changed_map m c) c (get_or t.pools i q.0).pool ≡ 0 = rw here (quiet_evals q.0 none) in
      let next : i + 1 + n ≡ i + suc n = omega arith in
      let rest = skip n (i + 1) (patches ++ None ∷ []) evals (omega (arith, few)) (record {
        made = lead_more t.pools (changed_map m c) i q.0 patches None sofar.made q.1 (quiet_lead i q.0 q.1 none);
        evals = omega (arith, sofar.evals, sum, own);
      }) (λ k r from below at. quiet k r (omega (arith, from)) (omega (arith, below)) at) in
      let here : Sofar t.pools (changed_map m c) c (i + suc n) ((patches ++ None ∷ []) ++ replicate n None) evals = subst (λ k. Sofar t.pools (changed_map m c) c k ((patches ++ None ∷ []) ++ replicate n None) evals) next rest in
      subst (λ (ps : List (Option GroupPatch)). Sofar t.pools (changed_map m c) c (i + suc n) ps evals) (append_assoc patches (None ∷ []) (replicate n None)) here

  -- up to a place
  pub skipped_to : (i j : ℕ) (patches : List (Option GroupPatch)) (evals : ℕ) → i ≤ j → j ≤ length t.pools → Sofar t.pools (changed_map m c) c i patches evals
      → ((k : ℕ) (q : PoolTable) → i ≤ k → k < j → slice_get t.pools k ≡ Some q → q.pool.pg_num ≤ 2 ^ 32 → [] ≡ concerned_numbers source c q.pool)
      → Sofar t.pools (changed_map m c) c j (patches ++ replicate (j - length patches) None) evals
  skipped_to i j patches evals up inside sofar quiet =
      let end : i + (j - i) ≡ j = omega (arith, up) in
      let left : j - length patches ≡ j - i = omega (arith, sofar.made.long) in
      let all = skip (j - i) i patches evals (omega (arith, up, inside)) sofar (λ k q from below at. quiet k q from (omega (arith, below, up)) at (groups_few k q at)) in
      rw left (rw end at all)

  -- from the first pool on
  pub skipped_first : (j : ℕ) → j ≤ length t.pools → ((k : ℕ) (q : PoolTable) → 0 ≤ k → k < j → slice_get t.pools k ≡ Some q → q.pool.pg_num ≤ 2 ^ 32 → [] ≡ concerned_numbers source c q.pool)
      → Sofar t.pools (changed_map m c) c j (replicate j None) 0
  skipped_first j inside quiet =
      let whole : j - 0 ≡ j = omega arith in
      subst (λ n. Sofar t.pools (changed_map m c) c j (replicate n None) 0) whole (skipped_to 0 j [] 0 (omega arith) inside (record { made = lead_begins t.pools (changed_map m c) [] refl; evals = refl }) quiet)

  -- where the change concerns no group at all, these are all pools
  module _ (groups : List Pg) (candidates : IsCandidates source c groups) (idle : is_empty groups ≡ true) where
    all_quiet : Sofar t.pools (changed_map m c) c (length t.pools) (replicate (length t.pools) None) 0
    all_quiet = skipped_first (length t.pools) (omega arith) (λ k q from below at few. none_concerned source c q.pool groups candidates idle)

    pub idle_leads : LeadFirst t.pools (changed_map m c) (length t.pools) (replicate (length t.pools) None)
    idle_leads = all_quiet.made

    pub idle_evals : 0 ≡ evals_of (changed_map m c) c
    idle_evals = all_quiet.evals ∙ evals_in_place t m c (length t.pools) is s (omega arith)
