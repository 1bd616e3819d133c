-- Stretches of pools in rooms: side by side they are all pools, and their runs add up to theirs.
use Rattle.std.proofs.Common.{◌≡◌, ◌∙◌, ◌++◌, refl, sym, ap, inl, inr, ℕ, zero, suc, ◌+◌, ◌-◌, ◌*◌, ◌^◌, ◌<◌, ◌≤◌, min, List, [], ◌∷◌, length, get_or, map, drop, take, Option, Some, None, IfSome, IsSome, arith}
use Rattle.std.specs.List.{All, between}
use Rattle.std.proofs.lemmas.Bool.{cases_order, false≢true}
use Rattle.std.proofs.lemmas.List.{get_or_default, map-append}
use Rattle.std.proofs.lemmas.List.Elements.{All-drop, All-take}
use Rattle.std.proofs.lemmas.List.Sums.{sum_by-append, sum_by-cons}
use Rattle.crush.specs.Run.{Ran}
use Rattle.maptypes.specs.Pools.{PoolFacts, total_groups}
use Rattle.osdmap.specs.Maps.{ClusterMap, HoldsTogether}
use Rattle.pgtable.proofs.Found.{found_at}
use Rattle.pgtable.proofs.Sharing.{before_and_from}
use Rattle.pgtable.specs.Stretches.{HasPools, begun_before, first_of, stretch_of, IsStretch}
use Rattle.pgtable.specs.Tables.{RunsMore, pool_table}
use Rattle.pgtable.specs.declared.pool_table.PoolTable.{PoolTable}

-- a map has its pools
pub own_pools : (m : ClusterMap) → HoldsTogether m → HasPools m m.pools
own_pools m holds k d inside =
    found_at (λ (p : PoolFacts). p.id) m.pools k (get_or m.pools k d) holds.pools.rise inside (get_or_default m.pools k d (get_or m.pools k d) inside)

-- before more groups no fewer pools begin
begun_rises : (a b : ℕ) (ps : List PoolFacts) → a ≤ b → begun_before a ps ≤ begun_before b ps
begun_rises zero b ps up = omega arith
begun_rises (suc a) zero ps up = absurd (omega arith)
begun_rises (suc a) (suc b) [] up = omega arith
begun_rises (suc a) (suc b) (p ∷ ps) up = omega (arith, begun_rises (suc a - p.pg_num) (suc b - p.pg_num) ps (omega arith))

-- no more than there are
begun_few : (n : ℕ) (ps : List PoolFacts) → begun_before n ps ≤ length ps
begun_few zero ps = omega arith
begun_few (suc n) [] = omega arith
begun_few (suc n) (p ∷ ps) = omega (arith, begun_few (suc n - p.pg_num) ps)

-- and before more groups than they have, all
begun_all : (n : ℕ) (ps : List PoolFacts) → total_groups ps < n → begun_before n ps ≡ length ps
begun_all zero ps past = absurd (omega arith)
begun_all (suc n) [] past = refl
begun_all (suc n) (p ∷ ps) past =
    let sum = sum_by-cons (λ (q : PoolFacts). q.pg_num) p ps in
    ap suc (begun_all (suc n - p.pg_num) ps (omega (arith, sum)))

-- stretches begin where those before them end
pub first_rises : (a b size : ℕ) (ps : List PoolFacts) → a ≤ b → first_of a size ps ≤ first_of b size ps
first_rises a b size ps less =
    let d = b - a in
    let is : b ≡ a + d = omega arith in
    let less : min (a * size) (2 ^ 64 - 1) ≤ min (b * size) (2 ^ 64 - 1) = rw is (omega arith) in
    begun_rises (min (a * size) (2 ^ 64 - 1)) (min (b * size) (2 ^ 64 - 1)) ps less

-- those of the next room also where its number is the greatest
pub next_first : (k size : ℕ) (ps : List PoolFacts) → k < 2 ^ 64 → first_of (min (k + 1) (2 ^ 64 - 1)) size ps ≡ first_of (k + 1) size ps
next_first k size ps small =
    let same : min (min (k + 1) (2 ^ 64 - 1) * size) (2 ^ 64 - 1) ≡ min ((k + 1) * size) (2 ^ 64 - 1) = elim (cases_order k (2 ^ 64 - 1)) [
      | inl last ↦ rw last (omega arith)
      | inr (inl before) ↦ (let next : min (k + 1) (2 ^ 64 - 1) ≡ k + 1 = omega (arith, before) in rw next refl)
      | inr (inr past) ↦ absurd (omega (arith, past, small))
    ] in
    ap (λ n. begun_before n ps) same

-- within the pools
pub first_few : (k size : ℕ) (ps : List PoolFacts) → first_of k size ps ≤ length ps
first_few k size ps = begun_few (min (k * size) (2 ^ 64 - 1)) ps

-- and those of rooms enough are all
pub first_past : (k size : ℕ) (ps : List PoolFacts) → total_groups ps < 2 ^ 32 → total_groups ps < k * size → first_of k size ps ≡ length ps
first_past k size ps few past = begun_all (min (k * size) (2 ^ 64 - 1)) ps (omega (arith, few, past))

-- the stretches before a room and its stretch are those before the next one
both : (k size : ℕ) (ps : List PoolFacts) → take (first_of k size ps) ps ++ stretch_of k size ps ≡ take (first_of (k + 1) size ps) ps
both k size ps = before_and_from (first_of k size ps) (first_of (k + 1) size ps) ps (first_rises k (k + 1) size ps (omega arith))

-- and so are their tables
pub next_stretch : (m : ClusterMap) (k size : ℕ) (ps : List PoolFacts) → map (pool_table m) (take (first_of k size ps) ps) ++ map (pool_table m) (stretch_of k size ps) ≡ map (pool_table m) (take (first_of (k + 1) size ps) ps)
next_stretch m k size ps = sym (map-append (pool_table m) (take (first_of k size ps) ps) (stretch_of k size ps)) ∙ ap (map (pool_table m)) (both k size ps)

-- how many groups the stretches before a room have
abbrev pub groups_before : ℕ → List PoolFacts → ℕ → ℕ
groups_before size ps k = total_groups (take (first_of k size ps) ps)

-- what holds of all pools holds of those of a stretch
pub stretch_all : (P : PoolFacts → Type 0) (k size : ℕ) (ps : List PoolFacts) → All P ps → All P (stretch_of k size ps)
stretch_all P k size ps all =
    let a = first_of k size ps in
    let b = first_of (k + 1) size ps in
    All-take P (b - a) (drop a ps) (All-drop P a ps all)

-- the groups before a room and those of its stretch are those before the next one
pub next_groups : (k size : ℕ) (ps : List PoolFacts) → total_groups (take (first_of k size ps) ps) + total_groups (stretch_of k size ps) ≡ total_groups (take (first_of (k + 1) size ps) ps)
next_groups k size ps = sym (sum_by-append (λ (q : PoolFacts). q.pg_num) (take (first_of k size ps) ps) (stretch_of k size ps)) ∙ ap total_groups (both k size ps)

-- before the first room there are none
pub groups_none : (size : ℕ) (ps : List PoolFacts) → groups_before size ps 0 ≡ 0
groups_none size ps =
    let none : min (0 * size) (2 ^ 64 - 1) ≡ 0 = omega arith in
    ap (λ n. total_groups (take (begun_before n ps) ps)) none

-- they rise
pub groups_rise : (size : ℕ) (ps : List PoolFacts) (a b : ℕ) → a ≤ b → groups_before size ps a ≤ groups_before size ps b
groups_rise size ps a b less =
    let f : PoolFacts → ℕ = λ q. q.pg_num in
    let x = first_of a size ps in
    let y = first_of b size ps in
    let joined = before_and_from x y ps (first_rises a b size ps less) in
    let sum : total_groups (take x ps) + total_groups (between x y ps) ≡ total_groups (take y ps) = sym (sum_by-append f (take x ps) (between x y ps)) ∙ ap total_groups joined in
    omega (arith, sum)

-- a room that has made the tables of its stretch took a run for each of their groups
pub stretch_ran : {X : Type 0} (items : X → List PoolTable) (m : ClusterMap) (k size : ℕ) (ps : List PoolFacts) (old new : Ran) (made : Option X) → IsSome made
    → IfSome made (λ x. IsStretch m (stretch_of k size ps) old new (items x)) → RunsMore (groups_before size ps (k + 1) - groups_before size ps k) old new
stretch_ran items m k size ps old new None some is = absurd (false≢true some)
stretch_ran items m k size ps old new (Some x) some is = omega (arith, is.runs, next_groups k size ps)
