-- The tables of all pools, made one after another.
use Rattle.std.proofs.Common.{◌≡◌, ◌≢◌, ◌⊎◌, ◌∙◌, refl, sym, ap, subst, ℕ, zero, suc, ◌+◌, ◌*◌, ◌<◌, ◌≤◌, List, [], ◌∷◌, ◌++◌, length, get_or, take, map, Option, Some, None, inl, inr, arith}
use Rattle.std.specs.Prelude.{slice_get}
use Rattle.std.specs.List.{All, zip, sum_by, range_with_len}
use Rattle.std.specs.Option.{option_map}
use Rattle.std.proofs.lemmas.Bool.{cases_lt}
use Rattle.std.proofs.lemmas.List.{map-append, take_more, take_all, length-append}
use Rattle.std.proofs.lemmas.List.FromFn.{length-range_with_len}
use Rattle.std.proofs.lemmas.List.Sums.{sum_by-cons, count_by-le-length}
use Rattle.std.proofs.lemmas.List.Elements.{All-head, All-tail}
use Rattle.std.proofs.lemmas.Option.{slice_get_within, get_or_from_slice_get}
use Rattle.maptypes.specs.declared.change.ChangeParts.{ChangeParts}
use Rattle.maptypes.specs.Pools.{PoolFacts, IsWithinLimits}
use Rattle.osdmap.specs.Maps.{ClusterMap, HoldsTogether}
use Rattle.osdmap.specs.Evals.{is_evaluated, evals_of}
use Rattle.grouptable.specs.Sets.{GroupSets}
use Rattle.pgtable.specs.declared.pool_table.PoolTable.{PoolTable}
use Rattle.pgtable.specs.declared.patch.KeptTable.{KeptTable}
use Rattle.pgtable.specs.Tables.{pool_table}
use Rattle.pgtable.specs.Patches.{with_kept, KeepsPool, MakesPool, MakesAll, evals_in}

-- ---- one more behind

-- two lists side by side, each with one more
zip_more : {X Y : Type 0} (xs : List X) (ys : List Y) (x : X) (y : Y) → length xs ≡ length ys → zip (xs ++ x ∷ []) (ys ++ y ∷ []) ≡ zip xs ys ++ (x, y) ∷ []
zip_more [] [] x y same = refl
zip_more [] (b ∷ ys) x y same = absurd (omega arith)
zip_more (a ∷ xs) [] x y same = absurd (omega arith)
zip_more (a ∷ xs) (b ∷ ys) x y same = ap (λ z. (a, b) ∷ z) (zip_more xs ys x y (omega arith))

-- an entry put behind leaves those before
pub get_before : {X : Type 0} (xs : List X) (x : X) (k : ℕ) → k < length xs → slice_get (xs ++ x ∷ []) k ≡ slice_get xs k
get_before [] x k inside = absurd (omega arith)
get_before (a ∷ xs) x zero inside = refl
get_before (a ∷ xs) x (suc k) inside = get_before xs x k (omega arith)

-- and stands at the end
pub get_behind : {X : Type 0} (xs : List X) (x : X) (k : ℕ) → k ≡ length xs → slice_get (xs ++ x ∷ []) k ≡ Some x
get_behind [] x zero is = refl
get_behind [] x (suc k) is = absurd (omega arith)
get_behind (a ∷ xs) x zero is = absurd (omega arith)
get_behind (a ∷ xs) x (suc k) is = get_behind xs x k (omega arith)

-- nothing stands past it
pub get_past : {X : Type 0} (xs : List X) (x y : X) (k : ℕ) → slice_get (xs ++ x ∷ []) k ≡ Some y → k ≤ length xs
get_past xs x y k is = let long : length (xs ++ x ∷ []) ≡ length xs + 1 = length-append xs (x ∷ []) in omega (arith, slice_get_within (xs ++ x ∷ []) k y is)

-- a list has an entry at each place
pub element : {X : Type 0} (xs : List X) (i : ℕ) → i < length xs → (x : X) × (slice_get xs i ≡ Some x)
element [] i inside = absurd (omega arith)
element (x ∷ xs) zero inside = (x, refl)
element (x ∷ xs) (suc i) inside = element xs i (omega arith)

-- ---- one table

-- the table of a pool without groups, with what is kept of an old one
pub makes_kept : (old : List PoolTable) (m : ClusterMap) (p : PoolFacts) (q : PoolTable) (k : KeptTable) → q.pool ≡ p → KeepsPool old m p k → MakesPool old m p q (Some k)
makes_kept old m p q k pool keeps = record {
  table = rw pool (ap (λ (groups : GroupSets). record { pool = p; groups = groups }) keeps.sets);
  kept = λ j is. (let same : k ≡ j = cc in subst (KeepsPool old m p) same keeps);
}

-- ---- so far

-- the tables of the first pools
pub record Makes (old : List PoolTable) (m : ClusterMap) (i : ℕ) (pools : List PoolTable) (kept : List (Option KeptTable)) : Type 0 where
  pub long : length pools ≡ i
  pub kept_long : length kept ≡ i
  pub tables : map (λ e. with_kept old e.0 e.1) (zip pools kept) ≡ map (pool_table m) (take i m.pools)
  pub each : (k : ℕ) (p : PoolFacts) (b : KeptTable) → slice_get m.pools k ≡ Some p → slice_get kept k ≡ Some (Some b) → KeepsPool old m p b

module _ (old : List PoolTable) (m : ClusterMap) where
  pub make_begins : (pools : List PoolTable) (kept : List (Option KeptTable)) → pools ≡ [] → kept ≡ [] → Makes old m 0 pools kept
  make_begins pools kept e f = rw (e, f) (record {
    long = refl;
    kept_long = refl;
    tables = refl;
    each = λ k p b there is. let wrong : None ≡ Some (Some b) = is in absurd (cc);
  })

  pub make_more : (i : ℕ) (p : PoolFacts) (pools : List PoolTable) (kept : List (Option KeptTable)) (q : PoolTable) (one : Option KeptTable) → Makes old m i pools kept → slice_get m.pools i ≡ Some p → MakesPool old m p q one → Makes old m (i + 1) (pools ++ q ∷ []) (kept ++ one ∷ [])
  make_more i p pools kept q one sofar there made =
      let inside = slice_get_within m.pools i p there in
      let long : length (pools ++ q ∷ []) ≡ length pools + 1 = length-append pools (q ∷ []) in
      let kept_long : length (kept ++ one ∷ []) ≡ length kept + 1 = length-append kept (one ∷ []) in
      let is : get_or m.pools i p ≡ p = get_or_from_slice_get m.pools i p p there in
      record {
        long = omega (arith, long, sofar.long);
        kept_long = omega (arith, kept_long, sofar.kept_long);
        tables =
            ap (map (λ e. with_kept old e.0 e.1)) (zip_more pools kept q one (sofar.long ∙ sym sofar.kept_long))
            ∙ map-append (λ e. with_kept old e.0 e.1) (zip pools kept) ((q, one) ∷ [])
            ∙ rw (sofar.tables, made.table) (sym (ap (map (pool_table m)) (take_more m.pools i p inside) ∙ map-append (pool_table m) (take i m.pools) (get_or m.pools i p ∷ []) ∙ rw is refl));
        each = λ k r b at kept_at. by_place k r b at kept_at (cases_lt k i);
      }
    where
      by_place : (k : ℕ) (r : PoolFacts) (b : KeptTable) → slice_get m.pools k ≡ Some r → slice_get (kept ++ one ∷ []) k ≡ Some (Some b) → (k < i) ⊎ (i ≤ k) → KeepsPool old m r b
      by_place k r b at kept_at cases = elim cases [
        | inl before ↦ sofar.each k r b at (sym (get_before kept one k (omega (arith, sofar.kept_long, before))) ∙ kept_at)
        | inr behind ↦
            let last : k ≡ length kept = omega (arith, get_past kept one (Some b) k kept_at, sofar.kept_long, behind) in
            let here : k ≡ i = omega (arith, sofar.kept_long) in
            let same : Some one ≡ Some (Some b) = sym (get_behind kept one k last) ∙ kept_at in
            let found : Some p ≡ Some r = sym there ∙ (rw here at at) in
            let is : p ≡ r = cc in
            rw (← is) (made.kept b (cc))
      ]

  apart_by_id : (a b : ℕ) (p r : PoolFacts) → p.id < r.id → option_map (λ q. q.pool.id) (slice_get old a) ≡ Some p.id → option_map (λ q. q.pool.id) (slice_get old b) ≡ Some r.id → a ≢ b
  apart_by_id a b p r less first second e =
      let same : Some p.id ≡ Some r.id = sym first ∙ (rw (← e) at second) in
      let is : p.id ≡ r.id = cc in
      omega arith

  pub make_ends : (pools : List PoolTable) (kept : List (Option KeptTable)) → HoldsTogether m → Makes old m (length m.pools) pools kept → MakesAll old m pools kept
  make_ends pools kept holds sofar = record {
    long = sofar.long;
    fits = record {
      same = sofar.kept_long ∙ sym sofar.long;
      each = λ i k is. (sofar.each i (pool i (inside i (Some k) is)) k (there i (inside i (Some k) is)) is).fits;
      apart = λ i j a b less first second.
          let within = inside i (Some a) first in
          let last = inside j (Some b) second in
          let ids = rises i j within last less in
          apart_by_id a.at b.at (pool i within) (pool j last) ids (sofar.each i (pool i within) a (there i within) first).id (sofar.each j (pool j last) b (there j last) second).id;
    };
    tables = sofar.tables ∙ ap (map (pool_table m)) (take_all (length m.pools) m.pools (omega arith));
  }
    where
      inside : (i : ℕ) (one : Option KeptTable) → slice_get kept i ≡ Some one → i < length m.pools
      inside i one is = omega (arith, slice_get_within kept i one is, sofar.kept_long)

      pool : (i : ℕ) → i < length m.pools → PoolFacts
      pool i within = (element m.pools i within).0

      there : (i : ℕ) (within : i < length m.pools) → slice_get m.pools i ≡ Some (pool i within)
      there i within = (element m.pools i within).1

      rises : (i j : ℕ) (first : i < length m.pools) (last : j < length m.pools) → i < j → (pool i first).id < (pool j last).id
      rises i j first last less =
          let at = get_or_from_slice_get m.pools i (pool i first) (pool i first) (there i first) in
          let behind = get_or_from_slice_get m.pools j (pool j last) (pool i first) (there j last) in
          rw (at, behind) at (holds.pools.rise i j (pool i first) less last)

-- ---- evaluations

-- pools have at most 65,536 evaluations each
few_evals : (m : ClusterMap) (c : ChangeParts) (ps : List PoolFacts) → All IsWithinLimits ps → sum_by (evals_in m c) ps ≤ 65536 * length ps
few_evals m c [] within = omega arith
few_evals m c (p ∷ ps) within =
    let here = All-head IsWithinLimits p ps within in
    let rest = few_evals m c ps (All-tail IsWithinLimits p ps within) in
    let few = count_by-le-length (is_evaluated m c p) (range_with_len 0 p.pg_num) in
    let long = length-range_with_len 0 p.pg_num in
    let sum = sum_by-cons (evals_in m c) p ps in
    omega (arith, here.groups_most)

-- all pools have at most 16,777,216
pub evals_whole : (m : ClusterMap) (c : ChangeParts) → HoldsTogether m → sum_by (evals_in m c) m.pools ≤ 16777216
evals_whole m c holds = omega (arith, few_evals m c m.pools holds.pools.within, holds.pools.few)

-- the evaluations of the pools so far, at the end, are all
pub evals_all : (m : ClusterMap) (c : ChangeParts) (n : ℕ) → length m.pools ≤ n → sum_by (evals_in m c) (take n m.pools) ≡ evals_of m c
unfolding evals_of
evals_all m c n past = rw (take_all n m.pools past) refl
