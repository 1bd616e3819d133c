-- How many groups of a pool stand on an OSD: how many of their mapped sets have it, where it is up.
use Rattle.std.proofs.Common.{◌≡◌, ◌∙◌, refl, sym, ap, ℕ, ◌+◌, ◌≤◌, Bool, true, false, cond, eqb, List, [], length, get_or, map, Some, arith}
use Rattle.std.specs.Prelude.{if◌then◌else◌}
use Rattle.std.specs.List.{filter, find, range_with_len, count_by}
use Rattle.std.specs.Option.{option_map}
use Rattle.std.proofs.lemmas.List.{length-map}
use Rattle.std.proofs.lemmas.List.Folds.{fold-map}
use Rattle.std.proofs.lemmas.List.FromFn.{fill_by_all, length-map-range_with_len}
use Rattle.std.proofs.lemmas.List.Sums.{length-filter, count_by-le-length}
use Rattle.maptypes.specs.Pools.{PoolFacts}
use Rattle.osdmap.specs.Maps.{ClusterMap, pool_at, osd_is_up, HoldsTogether}
use Rattle.osdmap.specs.Placement.{group_of, mapped_set}
use Rattle.maptypes.specs.Sets.{stands}
use Rattle.grouptable.specs.Sets.{groups_of}
use Rattle.pgtable.specs.declared.pool_table.PoolTable.{PoolTable}
use Rattle.pgtable.specs.Index.{count_in}
use Rattle.pgtable.specs.Tables.{TableFacts, sets_of, pool_table, tables_of, ups_of, groups_on, IsTableOf}
use Rattle.pgtable.proofs.Shows.{find_map, up_in, count_shown}

-- numbers of elements that pass are as many as these
count_numbers : {X : Type 0} (q : X → Bool) (xs : List X) (d : X) → length (filter (λ n. q (get_or xs n d)) (range_with_len 0 (length xs))) ≡ count_by q xs
count_numbers {X} q xs d =
    let f = λ (n : ℕ). get_or xs n d in
    let all : xs ≡ map f (range_with_len 0 (length xs)) = fill_by_all f xs (length xs) d refl (λ k below. refl) in
    length-filter (λ n. q (f n)) (range_with_len 0 (length xs))
    ∙ sym (ap (count_by q) all ∙ fold-map (λ (a : ℕ) (x : X). a + cond (q x) 1 0) f 0 (range_with_len 0 (length xs)))

-- an OSD is held as often as it stands in the sets of the pool
held_count : (m : ClusterMap) (p : PoolFacts) (osd : ℕ) → length (groups_on osd (pool_table m p)) ≡ count_by (stands osd) (sets_of m p)
held_count m p osd = length-map (groups_of osd (sets_of m p)) (group_of p) ∙ count_numbers (stands osd) (sets_of m p) []

-- the count of an OSD in a pool is in how many mapped sets it stands, where it is up
pub count_is : (m : ClusterMap) (p : PoolFacts) (osd : ℕ) → HoldsTogether m → pool_at m.pools p.id ≡ Some p
    → count_in m p.id osd ≡ (if osd_is_up m osd then count_by (stands osd) (sets_of m p) else 0)
count_is m p osd holds there =
    let t : TableFacts = record { pools = tables_of m; up = ups_of m } in
    let of : IsTableOf t m = record { holds = holds; pools = refl; up = refl } in
    let found : find (λ (q : PoolTable). eqb q.pool.id p.id) (tables_of m) ≡ Some (pool_table m p) = find_map (λ (q : PoolTable). eqb q.pool.id p.id) (pool_table m) m.pools ∙ ap (option_map (pool_table m)) there in
    sym (count_shown t m p.id osd of) ∙ rw (up_in m osd, found, held_count m p osd) refl

-- it is at most the number of groups
pub count_small : (m : ClusterMap) (p : PoolFacts) (osd : ℕ) → HoldsTogether m → pool_at m.pools p.id ≡ Some p → count_in m p.id osd ≤ p.pg_num
count_small m p osd holds there = rw (count_is m p osd holds there) (by_up (osd_is_up m osd))
  where
    by_up : (b : Bool) → (if b then count_by (stands osd) (sets_of m p) else 0) ≤ p.pg_num
    by_up true = omega (arith, count_by-le-length (stands osd) (sets_of m p), length-map-range_with_len (mapped_set m p) 0 p.pg_num)
    by_up false = omega arith
