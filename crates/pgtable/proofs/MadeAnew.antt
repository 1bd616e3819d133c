-- Tables that are made anew, the last one first: they are taken out where their pools come.
use Rattle.std.proofs.Common.{◌≡◌, ◌≢◌, ◌⊎◌, ◌∙◌, ◌++◌, refl, sym, ap, inl, inr, ℕ, ◌+◌, ◌<◌, ◌≤◌, Bool, true, false, cond, List, [], ◌∷◌, length, get_or, map, drop, reverse, Option, Some, None, arith}
use Rattle.std.specs.List.{All, filter, sum_by}
use Rattle.std.proofs.lemmas.Bool.{cases_Bool}
use Rattle.std.proofs.lemmas.List.{map-append, reverse-append, drop_more, get_or-drop, get_or_default, length-drop}
use Rattle.std.proofs.lemmas.List.Elements.{All-head, All-tail, All-filter}
use Rattle.std.proofs.lemmas.List.Sorted.{All-permutation, IsPermutation-reverse}
use Rattle.std.proofs.lemmas.List.Sums.{sum_by-cons, sum_by_push}
use Rattle.crush.specs.Run.{Ran}
use Rattle.keylist.specs.Order.{IsRising}
use Rattle.maptypes.specs.declared.change.ChangeParts.{ChangeParts}
use Rattle.maptypes.specs.Pools.{PoolFacts, total_groups}
use Rattle.osdmap.specs.Evals.{is_touched}
use Rattle.osdmap.specs.Maps.{ClusterMap}
use Rattle.pgtable.specs.declared.patch.NewTable.{NewTable}
use Rattle.pgtable.specs.declared.pool_table.PoolTable.{PoolTable}
use Rattle.pgtable.specs.Patches.{evals_in, MakesPool}
use Rattle.pgtable.specs.Rooms.{RunMore}
use Rattle.pgtable.specs.Tables.{pool_table}
use Rattle.pgtable.proofs.Keeping.{evals_touched}

-- those of some pools that pass a test, the last one first
abbrev pub back : (PoolFacts → Bool) → List PoolFacts → List PoolFacts
back q ps = reverse (filter q ps)

-- one more in front that passes comes last
pub back_more : (q : PoolFacts → Bool) (p : PoolFacts) (ps : List PoolFacts) → q p ≡ true → back q (p ∷ ps) ≡ back q ps ++ p ∷ []
back_more q p ps is = rw is (reverse-append (p ∷ []) (filter q ps))

-- and one that does not is none of them
pub back_less : (q : PoolFacts → Bool) (p : PoolFacts) (ps : List PoolFacts) → q p ≡ false → back q (p ∷ ps) ≡ back q ps
back_less q p ps is = rw is refl

-- what holds of all pools holds of them
pub back_all : (P : PoolFacts → Type 0) (q : PoolFacts → Bool) (ps : List PoolFacts) → All P ps → All P (back q ps)
back_all P q ps all = All-permutation P (filter q ps) (back q ps) (IsPermutation-reverse (filter q ps)) (All-filter q P ps all)

-- they have no more groups than all
pub back_few : (q : PoolFacts → Bool) (ps : List PoolFacts) → total_groups (back q ps) ≤ total_groups ps
back_few q [] = omega arith
back_few q (p ∷ ps) =
    let sum = sum_by-cons (λ (r : PoolFacts). r.pg_num) p ps in
    let rest = back_few q ps in
    elim (cases_Bool (q p)) [
      | inl passes ↦ rw (back_more q p ps passes) (omega (arith, sum, rest, sum_by_push (λ (r : PoolFacts). r.pg_num) (back q ps) p))
      | inr fails ↦ rw (back_less q p ps fails) (omega (arith, sum, rest))
    ]

-- the evaluations of a pool that a change does not touch as a whole
abbrev pub kept_evals : ClusterMap → ChangeParts → PoolFacts → ℕ
kept_evals m c p = cond (is_touched m c p) 0 (evals_in m c p)

-- the groups of the touched pools and the evaluations of the others are all evaluations
pub back_evals : (m : ClusterMap) (c : ChangeParts) (ps : List PoolFacts) → total_groups (back (is_touched m c) ps) + sum_by (kept_evals m c) ps ≡ sum_by (evals_in m c) ps
back_evals m c [] = refl
back_evals m c (p ∷ ps) =
    let q = is_touched m c in
    let all = sum_by-cons (evals_in m c) p ps in
    let kept = sum_by-cons (kept_evals m c) p ps in
    let rest = back_evals m c ps in
    elim (cases_Bool (q p)) [
      | inl passes ↦
          let none : kept_evals m c p ≡ 0 = rw passes refl in
          rw (back_more q p ps passes) (omega (arith, all, kept, rest, none, evals_touched m c p passes, sum_by_push (λ (r : PoolFacts). r.pg_num) (back q ps) p))
      | inr fails ↦
          let same : kept_evals m c p ≡ evals_in m c p = rw fails refl in
          rw (back_less q p ps fails) (omega (arith, all, kept, rest, same))
    ]

-- two lists with one more behind are the same only where both are
pub last_same : {X : Type 0} (xs ys : List X) (x y : X) → xs ++ x ∷ [] ≡ ys ++ y ∷ [] → (xs ≡ ys) × (x ≡ y)
last_same [] [] x y is = (refl, cc)
last_same [] (b ∷ []) x y is = absurd (cc)
last_same [] (b ∷ d ∷ ys) x y is = absurd (cc)
last_same (a ∷ []) [] x y is = absurd (cc)
last_same (a ∷ d ∷ xs) [] x y is = absurd (cc)
last_same (a ∷ xs) (b ∷ ys) x y is =
    let first : a ≡ b = cc in
    let rest = last_same xs ys x y (cc) in
    (rw (first, rest.0) refl, rest.1)

-- where all pools come behind one, the last of their tables is not its
other_last : (m : ClusterMap) (q : PoolFacts → Bool) (n : ℕ) (ps : List PoolFacts) → All (λ r. n < r.id) ps → (ts : List PoolTable) (t : PoolTable) → map (pool_table m) (back q ps) ≡ ts ++ t ∷ [] → t.pool.id ≢ n
other_last m q n [] behind [] t is = absurd (cc)
other_last m q n [] behind (s ∷ ts) t is = absurd (cc)
other_last m q n (r ∷ rs) behind ts t is =
    elim (cases_Bool (q r)) [
      | inl passes ↦
          let here = All-head (λ (r : PoolFacts). n < r.id) r rs behind in
          let more : map (pool_table m) (back q rs) ++ pool_table m r ∷ [] ≡ ts ++ t ∷ [] = sym (ap (map (pool_table m)) (back_more q r rs passes) ∙ map-append (pool_table m) (back q rs) (r ∷ [])) ∙ is in
          let same = (last_same (map (pool_table m) (back q rs)) ts (pool_table m r) t more).1 in
          λ e.
          let id : r.id ≡ t.pool.id = ap (λ (s : PoolTable). s.pool.id) same in
          omega (arith, here, id, e)
      | inr fails ↦ other_last m q n rs (All-tail (λ (r : PoolFacts). n < r.id) r rs behind) ts t (ap (map (pool_table m)) (sym (back_less q r rs fails)) ∙ is)
    ]

-- the pools behind one have greater ids
behind : (ps : List PoolFacts) (i : ℕ) (p : PoolFacts) → IsRising (λ (r : PoolFacts). r.id) ps → i < length ps → p ≡ get_or ps i p → All (λ r. p.id < r.id) (drop (i + 1) ps)
behind ps i p rise inside is k d below =
    let long = length-drop (i + 1) ps in
    let at = get_or-drop (i + 1) ps k d in
    let first : get_or ps i d ≡ p = rw (get_or_default ps i d p inside) (sym is) in
    let less = rise i (i + 1 + k) d (omega arith) (omega (arith, long, below)) in
    rw at (rw first at less)

-- what is taken out where a pool comes: its table, if a change touches it as a whole
abbrev pub Taken : ClusterMap → ChangeParts → PoolFacts → Option NewTable → Type 0
Taken m c p result =
    ((is_touched m c p ≡ true) × (result ≡ Some (record { table = pool_table m p; kept = None; evals = p.pg_num })))
    ⊎ ((is_touched m c p ≡ false) × (result ≡ None))

-- that is what is taken out of the tables of the touched pools that are left, and those that come later stay
pub took : (m : ClusterMap) (c : ChangeParts) (i : ℕ) (p : PoolFacts) (old new : List PoolTable) (result : Option NewTable) → IsRising (λ (r : PoolFacts). r.id) m.pools → i < length m.pools → p ≡ get_or m.pools i p
    → old ≡ map (pool_table m) (back (is_touched m c) (drop i m.pools))
    → ((ts : List PoolTable) (t : PoolTable) → old ≡ ts ++ t ∷ [] → t.pool.id ≡ p.id → (result ≡ Some (record { table = t; kept = None; evals = p.pg_num })) × (new ≡ ts))
    → (((ts : List PoolTable) (t : PoolTable) → old ≡ ts ++ t ∷ [] → t.pool.id ≢ p.id) → (result ≡ None) × (new ≡ old))
    → (new ≡ map (pool_table m) (back (is_touched m c) (drop (i + 1) m.pools))) × Taken m c p result
took m c i p old new result rise inside is rest own other =
    let q = is_touched m c in
    let next : drop i m.pools ≡ p ∷ drop (i + 1) m.pools = rw (← is) at (drop_more m.pools i p inside) in
    elim (cases_Bool (q p)) [
      | inl passes ↦
          let more : old ≡ map (pool_table m) (back q (drop (i + 1) m.pools)) ++ pool_table m p ∷ [] =
          rest ∙ ap (λ ps. map (pool_table m) (back q ps)) next ∙ ap (map (pool_table m)) (back_more q p (drop (i + 1) m.pools) passes) ∙ map-append (pool_table m) (back q (drop (i + 1) m.pools)) (p ∷ []) in
          let taken = own (map (pool_table m) (back q (drop (i + 1) m.pools))) (pool_table m p) more refl in
          (taken.1, inl (passes, taken.0))
      | inr fails ↦
          let same : old ≡ map (pool_table m) (back q (drop (i + 1) m.pools)) = rest ∙ ap (λ ps. map (pool_table m) (back q ps)) next ∙ ap (map (pool_table m)) (back_less q p (drop (i + 1) m.pools) fails) in
          let left = other (λ ts t at. other_last m q p.id (drop (i + 1) m.pools) (behind m.pools i p rise inside is) ts t (sym same ∙ at)) in
          (left.1 ∙ same, inr (fails, left.0))
    ]

-- the table of a pool as it is made, and what it took: no run where the table was made before
pub record Made (old : List PoolTable) (m : ClusterMap) (c : ChangeParts) (p : PoolFacts) (before after : List Ran) (made : NewTable) : Type 0 where
  pub makes : MakesPool old m p made.table made.kept
  pub evals : made.evals ≡ evals_in m c p
  pub runs : RunMore (kept_evals m c p) before after

-- one that is taken out
pub made_before : (old : List PoolTable) (m : ClusterMap) (c : ChangeParts) (p : PoolFacts) (rooms : List Ran) (result : Option NewTable) (made : NewTable) → Taken m c p result → result ≡ Some made → Made old m c p rooms rooms made
made_before old m c p rooms result made taken is =
    elim taken [
      | inl both ↦
          let same : Some made ≡ Some (record { table = pool_table m p; kept = None; evals = p.pg_num }) = sym is ∙ both.1 in
          let e : made ≡ record { table = pool_table m p; kept = None; evals = p.pg_num } = cc in
          let none : kept_evals m c p ≡ 0 = rw both.0 refl in
          rw e (record {
            makes = record { table = refl; kept = λ k wrong. absurd (cc) };
            evals = sym (evals_touched m c p both.0);
            runs = omega (arith, none);
          })
      | inr both ↦ absurd (cc)
    ]

-- and one of which something is kept
pub made_now : (old : List PoolTable) (m : ClusterMap) (c : ChangeParts) (p : PoolFacts) (before after : List Ran) (result : Option NewTable) (made : NewTable) → Taken m c p result → result ≡ None
    → MakesPool old m p made.table made.kept → made.evals ≡ evals_in m c p → RunMore (evals_in m c p) before after → Made old m c p before after made
made_now old m c p before after result made taken is makes evals runs =
    elim taken [
      | inl both ↦ absurd (cc)
      | inr both ↦
          let same : kept_evals m c p ≡ evals_in m c p = rw both.0 refl in
          record { makes = makes; evals = evals; runs = omega (arith, runs, same) }
    ]

-- a pool of which nothing is taken out is not touched as a whole
pub untouched : (m : ClusterMap) (c : ChangeParts) (p : PoolFacts) (result : Option NewTable) → Taken m c p result → result ≡ None → is_touched m c p ≡ false
untouched m c p result taken is = elim taken [ inl both ↦ absurd (cc) | inr both ↦ both.0 ]
