-- Counts of several, of which one rises, and counts of those who come.
use Rattle.std.proofs.Common.{◌≡◌, ◌∙◌, ◌+◌, ◌<◌, ℕ, zero, suc, List, [], ◌∷◌, ◌++◌, length, Some, slice_get, slice_set, slice_index_or, length-append, refl, sym, subst, ap, arith}
use Rattle.std.specs.List.{All}
use Rattle.std.proofs.lemmas.List.Elements.{All-push, All-weaker}
use Rattle.std.proofs.lemmas.List.Sums.{sum_by-set, sum_by-append, sum_by-cons}
use Rattle.tip.specs.declared.twins.Kept.{Kept}
use Rattle.monitor.specs.declared.tally.Tally.{Tally}
use Rattle.monitor.specs.Tallies.{names_of, total_of, IsNewTallyOf}

-- a place that has a name is one of the list
pub within : (kept : List Kept) (at name : ℕ) → slice_get (names_of kept) at ≡ Some name → at < length kept
within [] at name e = absurd (cc e)
within (k ∷ kept) zero name e = omega arith
within (k ∷ kept) (suc at) name e = omega (arith, within kept at name e)

-- what stands at its place has its name
pub named : (kept : List Kept) (at name : ℕ) (d : Kept) → slice_get (names_of kept) at ≡ Some name → (slice_index_or kept at d).name ≡ name
named [] at name d e = absurd (cc e)
named (k ∷ kept) zero name d e = cc e
named (k ∷ kept) (suc at) name d e = named kept at name d e

-- one rises: no name is another then, and all come to as much more
pub names_set : (xs : List Kept) (at : ℕ) (k d : Kept) → k.name ≡ (slice_index_or xs at d).name → names_of (slice_set xs at k) ≡ names_of xs
names_set [] at k d e = refl
names_set (x ∷ xs) zero k d e = ap (λ n. n ∷ names_of xs) e
names_set (x ∷ xs) (suc at) k d e = ap (λ ns. x.name ∷ ns) (names_set xs at k d e)

-- all come to as much more as the one that rises
pub total_set : (xs : List Kept) (at more : ℕ) (k d : Kept) → at < length xs → k.count ≡ (slice_index_or xs at d).count + more
    → total_of (slice_set xs at k) ≡ total_of xs + more
total_set xs at more k d h e = omega (arith, e, sum_by-set (λ (q : Kept). q.count) xs at k d h)

-- one alone is all
pub alone : (kept : List Kept) (at name : ℕ) (d : Kept) → slice_get (names_of kept) at ≡ Some name → length (names_of kept) ≡ 1
    → total_of kept ≡ (slice_index_or kept at d).count
alone [] at name d e one = absurd (cc e)
alone (k ∷ []) zero name d e one = omega arith
alone (k ∷ []) (suc at) name d e one = absurd (cc e)
alone (k ∷ l ∷ kept) at name d e one = absurd (omega (arith, one))

-- ---- one more

-- behind the names of all stands the name of one more
pub names_more : (kept : List Kept) (k : Kept) → names_of (kept ++ k ∷ []) ≡ names_of kept ++ k.name ∷ []
names_more [] k = refl
names_more (x ∷ kept) k = ap (λ ns. x.name ∷ ns) (names_more kept k)

-- all come to as much more as one more has
pub total_more : (kept : List Kept) (k : Kept) → total_of (kept ++ k ∷ []) ≡ total_of kept + k.count
total_more kept k = omega (arith, sum_by-append (λ (q : Kept). q.count) kept (k ∷ []), sum_by-cons (λ (q : Kept). q.count) k [])

-- where there is none, all come to 0
pub none_counted : total_of [] ≡ 0
none_counted = refl

-- with one more there is one name more
pub length_more : (kept : List Kept) (k : Kept) → length (names_of (kept ++ k ∷ [])) ≡ length (names_of kept) + 1
length_more kept k = ap length (names_more kept k) ∙ length-append (names_of kept) (k.name ∷ [])

-- a name stands at its place still when another is put behind all
get_before : (names : List ℕ) (at name other : ℕ) → slice_get names at ≡ Some name → slice_get (names ++ other ∷ []) at ≡ Some name
get_before [] at name other e = absurd (cc e)
get_before (n ∷ names) zero name other e = e
get_before (n ∷ names) (suc at) name other e = get_before names at name other e

-- and the other stands at the place behind all
get_last : (names : List ℕ) (name : ℕ) → slice_get (names ++ name ∷ []) (length names) ≡ Some name
get_last [] name = refl
get_last (n ∷ names) name = get_last names name

-- those who were there keep their counts, and one more has one
pub tallies_more : (kept : List Kept) (k : Kept) (ts : List Tally) (t : Tally) → All (IsNewTallyOf (names_of kept)) ts
    → t.at ≡ length (names_of kept) → t.mine.name ≡ k.name → t.mine.count ≡ 0
    → All (IsNewTallyOf (names_of (kept ++ k ∷ []))) (ts ++ t ∷ [])
tallies_more kept k ts t all at name none =
    let names = names_of kept ++ k.name ∷ [] in
    let before = All-weaker (IsNewTallyOf (names_of kept)) (IsNewTallyOf names)
    (λ u is. record { own = get_before (names_of kept) u.at u.mine.name k.name is.own; none = is.none }) ts all in
    let last : IsNewTallyOf names t = record { own = rw (at, name) (get_last (names_of kept) k.name); none = none } in
    subst (λ ns. All (IsNewTallyOf ns) (ts ++ t ∷ [])) (sym (names_more kept k)) (All-push (IsNewTallyOf names) ts t before last)
