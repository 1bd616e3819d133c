-- Groups in ascending order, and tables by rising ids: which tables have none of these groups.
use Rattle.std.proofs.Common.{◌≡◌, ◌∙◌, sym, refl, ℕ, suc, ◌⊎◌, ◌+◌, ◌*◌, ◌^◌, ◌<◌, ◌≤◌, false, List, [], ◌∷◌, length, get_or, Some, inl, inr, arith}
use Rattle.std.specs.Prelude.{slice_get}
use Rattle.std.specs.List.{list_any}
use Rattle.std.proofs.lemmas.Bool.{cases_lt, cases_order}
use Rattle.std.proofs.lemmas.Bool.Decides.{nat_tests}
use Rattle.std.proofs.lemmas.Option.{slice_get-get_or, slice_get_within, get_or_from_slice_get}
use Rattle.keylist.specs.Order.{IsRising}
use Rattle.maptypes.specs.declared.pg.Pg.{Pg}
use Rattle.maptypes.specs.Exceptions.{pg_key}
use Rattle.maptypes.specs.Pools.{PoolFacts}
use Rattle.pgtable.specs.declared.pool_table.PoolTable.{PoolTable}
use Rattle.pgtable.specs.Candidates.{is_of_pool}
use Rattle.pgtable.specs.Tables.{table_id}

-- a group before the first of a pool or behind its last does not stand in it
not_of : (p : PoolFacts) (g : Pg) → (pg_key g < p.id * 2 ^ 32) ⊎ (p.id * 2 ^ 32 + p.pg_num ≤ pg_key g) → is_of_pool p g ≡ false
not_of p g (inl before) = grind (arith, nat_tests)
not_of p g (inr behind) = grind (arith, nat_tests)

-- where each stands before or behind, none does
outside : (p : PoolFacts) (gs : List Pg) → ((i : ℕ) (d : Pg) → i < length gs → (pg_key (get_or gs i d) < p.id * 2 ^ 32) ⊎ (p.id * 2 ^ 32 + p.pg_num ≤ pg_key (get_or gs i d))) → list_any (is_of_pool p) gs ≡ false
outside p [] away = refl
outside p (g ∷ gs) away = rw (not_of p g (away 0 g (omega arith)), outside p gs (λ i d inside. away (suc i) d (omega arith))) refl

-- the keys of a list do not fall
not_less : {X : Type 0} (key : X → ℕ) (xs : List X) (i j : ℕ) (x y : X) → IsRising key xs → i ≤ j → slice_get xs i ≡ Some x → slice_get xs j ≡ Some y → key x ≤ key y
not_less key xs i j x y rises up here there =
    elim (cases_order i j) [
      | inl same ↦ let e : Some x ≡ Some y = sym here ∙ (rw same there) in let f : x ≡ y = cc in rw f (omega arith)
      | inr (inl less) ↦
          let more = rises i j x less (slice_get_within xs j y there) in
          let first = get_or_from_slice_get xs i x x here in
          let second = get_or_from_slice_get xs j y x there in
          omega (arith, rw (first, second) at more)
      | inr (inr past) ↦ absurd (omega arith)
    ]

module _ (tables : List PoolTable) (groups : List Pg) (rise : IsRising table_id tables) (at n key : ℕ) (t : PoolTable) (here : slice_get tables at ≡ Some t) (first : key ≡ t.pool.id * 2 ^ 32) (below : (i : ℕ) (d : Pg) → i < n → pg_key (get_or groups i d) < key) where
  -- from a table on none has a group, where all groups stand before its first
  pub none_left : length groups ≤ n → (k : ℕ) (q : PoolTable) → at ≤ k → slice_get tables k ≡ Some q → list_any (is_of_pool q.pool) groups ≡ false
  none_left all k q from is =
      let ids = not_less table_id tables at k t q rise from here is in
      outside q.pool groups (λ i d inside. inl (omega (arith, below i d (omega (arith, inside, all)), ids, first)))

  -- nor has one before that of the first group that does not
  pub none_before : IsRising pg_key groups → (g : Pg) → slice_get groups n ≡ Some g → (p : ℕ) → ((k : ℕ) (d : PoolTable) → k < p → table_id (get_or tables k d) < g.pool)
      → (k : ℕ) (q : PoolTable) → at ≤ k → k < p → slice_get tables k ≡ Some q → q.pool.pg_num ≤ 2 ^ 32 → list_any (is_of_pool q.pool) groups ≡ false
  none_before rising g found p before k q from less is few =
      let ids = not_less table_id tables at k t q rise from here is in
      let read = get_or_from_slice_get tables k q q is in
      let own : q.pool.id < g.pool = rw read at (before k q less) in
      outside q.pool groups (λ i d inside. elim (cases_lt i n) [
        | inl low ↦ inl (omega (arith, below i d low, ids, first))
        | inr high ↦ inr (later i d inside high own few)
      ])
    where
      later : (i : ℕ) (d : Pg) → i < length groups → n ≤ i → q.pool.id < g.pool → q.pool.pg_num ≤ 2 ^ 32 → q.pool.id * 2 ^ 32 + q.pool.pg_num ≤ pg_key (get_or groups i d)
      later i d inside high own few =
          let there = slice_get-get_or groups i d inside in
          let key = not_less pg_key groups n i g (get_or groups i d) rising high found there in
          omega (arith, key, own, few)
