-- The other sets of groups of pools, kept for those pools that get any: one pool more, and these put into the tables.
use Rattle.std.proofs.Common.{◌≡◌, ◌≢◌, ◌∙◌, refl, sym, ap, subst, ℕ, zero, suc, ◌⊎◌, ◌+◌, ◌-◌, ◌<◌, ◌≤◌, true, false, eqb, List, [], ◌∷◌, ◌++◌, length, map, replicate, set, drop, take, Option, Some, None, inl, inr, arith}
use Rattle.std.specs.Prelude.{slice_get}
use Rattle.std.specs.List.{zip, range_with_len}
use Rattle.std.specs.Option.{option_map}
use Rattle.std.proofs.lemmas.Bool.{cases_Bool, cases_lt, both_ways, eqb-true}
use Rattle.std.proofs.lemmas.Bool.Decides.{nat_tests}
use Rattle.std.proofs.Math.Seq.{drop-length}
use Rattle.std.proofs.lemmas.List.{drop_more, length-append, length-map, length-set, map-append, take_at, take-take}
use Rattle.std.proofs.lemmas.List.FromFn.{map-range_with_len_more, length-map-range_with_len, length-range_with_len, get_or-range_with_len}
use Rattle.std.proofs.lemmas.Option.{slice_get-map, slice_get-get_or, slice_get_within, get_or_from_slice_get}
use Rattle.crush.proofs.Rounds.{range_append}
use Rattle.grouptable.specs.Tables.{IsPatchFor}
use Rattle.pgtable.specs.declared.group_patches.PoolPatch.{PoolPatch}
use Rattle.pgtable.specs.declared.pool_table.PoolTable.{PoolTable}
use Rattle.pgtable.specs.Patches.{with_patch, FitGroups}
use Rattle.pgtable.specs.PoolPatches.{patch_at, patches_by, AreBelow}
use Rattle.pgtable.proofs.KeptTables.{same_lists, get_set_other, get_set_same, long_zip, get_zip}
use Rattle.pgtable.proofs.Making.{element, get_before, get_behind, get_past}

-- a number is itself, and no greater one
eqb-refl : (n : ℕ) → eqb n n ≡ true
eqb-refl n = grind (arith, nat_tests)

-- a number below another is not that one
eqb-less : (a b : ℕ) → a < b → eqb a b ≡ false
eqb-less a b less = grind (arith, nat_tests)

-- nothing and a number are that number
zero_plus : (n : ℕ) → 0 + n ≡ n
zero_plus n = omega arith

-- ---- one pool more

-- a pool that none is for gets none
pub patch_none : (some : List PoolPatch) (k : ℕ) → ((i : ℕ) (p : PoolPatch) → slice_get some i ≡ Some p → p.at ≢ k) → patch_at some k ≡ None
patch_none [] k others = refl
patch_none (p ∷ ps) k others = elim (cases_Bool (eqb p.at k)) [
  | inl here ↦ absurd (others 0 p refl (eqb-true p.at k here))
  | inr other ↦ rw other (patch_none ps k (λ i q is. others (suc i) q is))
]

-- what comes behind the others is found where none of them is
found_behind : (some : List PoolPatch) (p : PoolPatch) (k : ℕ) → patch_at some k ≡ None → p.at ≡ k → patch_at (some ++ p ∷ []) k ≡ Some p.patch
found_behind [] p k none here = rw (here_true p.at k here) refl
  where
    here_true : (a b : ℕ) → a ≡ b → eqb a b ≡ true
    here_true a b e = rw e (eqb-refl b)
found_behind (q ∷ qs) p k none here = elim (cases_Bool (eqb q.at k)) [
  | inl found ↦ let wrong : Some q.patch ≡ None = rw found at none in absurd (cc)
  | inr other ↦ rw other (found_behind qs p k (rw other at none) here)
]

-- and no other is
found_before : (some : List PoolPatch) (p : PoolPatch) (k : ℕ) → p.at ≢ k → patch_at (some ++ p ∷ []) k ≡ patch_at some k
found_before [] p k apart = elim (cases_Bool (eqb p.at k)) [
  | inl here ↦ absurd (apart (eqb-true p.at k here))
  | inr other ↦ rw other refl
]
found_before (q ∷ qs) p k apart = elim (cases_Bool (eqb q.at k)) [
  | inl found ↦ rw found refl
  | inr other ↦ rw other (found_before qs p k apart)
]

-- what is made of the numbers of a range by two functions that agree there
same_range : {X : Type 0} (f g : ℕ → X) (n : ℕ) → ((k : ℕ) → k < n → f k ≡ g k) → map f (range_with_len 0 n) ≡ map g (range_with_len 0 n)
same_range f g zero same = refl
same_range f g (suc n) same =
    let more = map-range_with_len_more f 0 n n (omega arith) in
    let more_too = map-range_with_len_more g 0 n n (omega arith) in
    let next : suc n ≡ n + 1 = omega arith in
    subst (λ m. map f (range_with_len 0 m) ≡ map g (range_with_len 0 m)) (sym next) (more ∙ ap (λ xs. xs ++ f n ∷ []) (same_range f g n (λ k below. same k (omega arith))) ∙ ap (λ x. map g (range_with_len 0 n) ++ x ∷ []) (same n (omega arith)) ∙ sym more_too)

-- where there is none at all, no pool gets any
pub patches_none : (some : List PoolPatch) (count : ℕ) → some ≡ [] → patches_by some count ≡ replicate count None
patches_none some count none = ap (λ ps. patches_by ps count) none ∙ none_from count 0
  where
    none_from : (n a : ℕ) → map (patch_at []) (range_with_len a n) ≡ replicate n None
    none_from zero a = refl
    none_from (suc n) a = ap (λ xs. None ∷ xs) (none_from n _)

-- there are as many as pools
pub patches_long : (some : List PoolPatch) (count : ℕ) → length (patches_by some count) ≡ count
patches_long some count = length-map-range_with_len (patch_at some) 0 count

module _ (some : List PoolPatch) (count : ℕ) (below : AreBelow some count) where
  -- the pools behind have none so far
  none_at : (k : ℕ) → count ≤ k → patch_at some k ≡ None
  none_at k past = patch_none some k (λ i p is. λ e. omega (arith, below.below i p is, past))

  none_past : (n a : ℕ) → count ≤ a → map (patch_at some) (range_with_len a n) ≡ replicate n None
  none_past zero a past = refl
  none_past (suc n) a past = ap (λ x. x ∷ map (patch_at some) (range_with_len (a + 1) n)) (none_at a past) ∙ ap (λ xs. None ∷ xs) (none_past n (a + 1) (omega (arith, past)))

  -- pools that get none
  pub skipped : (more : ℕ) → count ≤ more → patches_by some more ≡ patches_by some count ++ replicate (more - length (patches_by some count)) None
  skipped more past =
      let rest = more - count in
      let all : more ≡ count + rest = omega (arith, past) in
      let left : more - length (patches_by some count) ≡ rest = omega (arith, patches_long some count) in
      rw left (
      ap (patches_by some) all ∙ ap (map (patch_at some)) (range_append 0 count rest) ∙ map-append (patch_at some) (range_with_len 0 count) (range_with_len (0 + count) rest)
      ∙ ap (λ xs. patches_by some count ++ xs) (none_past rest (0 + count) (omega arith))
      )

  -- and one that does
  pub pushed_some : (p : PoolPatch) → p.at ≡ count → patches_by (some ++ p ∷ []) (count + 1) ≡ patches_by some count ++ Some p.patch ∷ []
  pushed_some p here =
      map-range_with_len_more (patch_at (some ++ p ∷ [])) 0 count count (omega arith)
      ∙ ap (λ x. map (patch_at (some ++ p ∷ [])) (range_with_len 0 count) ++ x ∷ []) (found_behind some p count (none_at count (omega arith)) here)
      ∙ ap (λ xs. xs ++ Some p.patch ∷ []) (same_range (patch_at (some ++ p ∷ [])) (patch_at some) count (λ k less. found_before some p k (λ e. omega (arith, here))))

  -- the positions are below greater numbers too
  pub below_more : (more : ℕ) → count ≤ more → AreBelow some more
  below_more more past = record {
    below = λ i p is. omega (arith, below.below i p is, past);
    rise = below.rise;
  }

  -- also with one more
  pub below_pushed : (p : PoolPatch) → p.at ≡ count → AreBelow (some ++ p ∷ []) (count + 1)
  below_pushed p here = record {
    below = λ i q is. at i q is (cases_lt i (length some));
    rise = λ i j q r less is is_too. apart i j q r less is is_too (cases_lt j (length some));
  }
    where
      last : (i : ℕ) (q : PoolPatch) → length some ≤ i → slice_get (some ++ p ∷ []) i ≡ Some q → p ≡ q
      last i q behind is =
          let e : i ≡ length some = omega (arith, get_past some p q i is, behind) in
          let same : Some p ≡ Some q = sym (get_behind some p i e) ∙ is in
          cc

      at : (i : ℕ) (q : PoolPatch) → slice_get (some ++ p ∷ []) i ≡ Some q → (i < length some) ⊎ (length some ≤ i) → q.at < count + 1
      at i q is cases = elim cases [
        | inl before ↦ omega (arith, below.below i q (sym (get_before some p i before) ∙ is))
        | inr behind ↦ let same = last i q behind is in rw (← same, here) (omega arith)
      ]

      apart : (i j : ℕ) (q r : PoolPatch) → i < j → slice_get (some ++ p ∷ []) i ≡ Some q → slice_get (some ++ p ∷ []) j ≡ Some r → (j < length some) ⊎ (length some ≤ j) → q.at < r.at
      apart i j q r less is is_too cases = elim cases [
        | inl before ↦ below.rise i j q r less (sym (get_before some p i (omega arith)) ∙ is) (sym (get_before some p j before) ∙ is_too)
        | inr behind ↦
            let same = last j r behind is_too in
            let e : j ≡ length some = omega (arith, get_past some p r j is_too, behind) in
            rw (← same, here) (below.below i q (sym (get_before some p i (omega arith)) ∙ is))
      ]

-- ---- into the tables

-- the pools of the last patches have what they get, and all others are as they were
pub record InstalledLast (old : List PoolTable) (some : List PoolPatch) (i : ℕ) (pools : List PoolTable) : Type 0 where
  pub long : length pools ≡ length old
  pub each : (k : ℕ) → slice_get pools k ≡ option_map (λ (q : PoolTable). with_patch q (patch_at (drop i some) k)) (slice_get old k)

-- nothing is put in yet
pub last_begin : (old : List PoolTable) (some : List PoolPatch) → InstalledLast old some (length some) old
last_begin old some = record {
  long = refl;
  each = λ k. unchanged (slice_get old k) ∙ ap (λ ps. option_map (λ (q : PoolTable). with_patch q (patch_at ps k)) (slice_get old k)) (sym (drop-length some));
}
  where
    unchanged : (q : Option PoolTable) → q ≡ option_map (λ (r : PoolTable). with_patch r None) q
    unchanged None = refl
    unchanged (Some q) = refl

-- what stands among the first stands there in the whole list
taken : {X : Type 0} (i : ℕ) (xs : List X) (j : ℕ) (x : X) → slice_get (take i xs) j ≡ Some x → (j < i) × (slice_get xs j ≡ Some x)
taken zero xs j x is = let wrong : None ≡ Some x = is in absurd (cc)
taken (suc i) [] j x is = let wrong : None ≡ Some x = is in absurd (cc)
taken (suc i) (y ∷ ys) zero x is = (omega arith, is)
taken (suc i) (y ∷ ys) (suc j) x is = let rest = taken i ys j x is in (omega (arith, rest.0), rest.1)

-- what stands behind the first stands there in the whole list
behind : {X : Type 0} (i : ℕ) (xs : List X) (j : ℕ) (x : X) → slice_get (drop i xs) j ≡ Some x → slice_get xs (i + j) ≡ Some x
behind zero xs j x is = rw (zero_plus j) is
behind (suc i) [] j x is = let wrong : None ≡ Some x = is in absurd (cc)
behind (suc i) (y ∷ ys) j x is = rw (next i j) (behind i ys j x is)
  where
    next : (i j : ℕ) → suc i + j ≡ suc (i + j)
    next i j = omega arith

-- the last of those that are left goes
pub popped : {X : Type 0} (xs before after : List X) (x : X) → before ≡ take (length before) xs → before ≡ after ++ x ∷ []
    → (after ≡ take (length after) xs) × (slice_get xs (length after) ≡ Some x) × (length before ≡ length after + 1)
popped xs before after x is opened =
    let long : length before ≡ length after + 1 = ap length opened ∙ length-append after (x ∷ []) in
    let there : slice_get before (length after) ≡ Some x = ap (λ ys. slice_get ys (length after)) opened ∙ get_behind after x (length after) refl in (
      sym (take_at after (x ∷ []) (length after) refl) ∙ ap (take (length after)) (sym opened ∙ is) ∙ take-take (length after) (length before) xs (omega (arith, long)),
      (taken (length before) xs (length after) x (sym (ap (λ ys. slice_get ys (length after)) is) ∙ there)).1,
      long,
    )

-- a position of a range
in_range : (n k : ℕ) → k < n → slice_get (range_with_len 0 n) k ≡ Some k
in_range n k inside = slice_get-get_or (range_with_len 0 n) k 0 (omega (arith, length-range_with_len 0 n)) ∙ ap (λ x. Some x) (get_or-range_with_len 0 n k 0 inside ∙ zero_plus k)

module _ (old : List PoolTable) (some : List PoolPatch) (below : AreBelow some (length old)) (fits : FitGroups old (patches_by some (length old))) where
  -- a patch is that of the pool at its position
  found_there : (some' : List PoolPatch) (i : ℕ) (p : PoolPatch) → ((j k : ℕ) (q r : PoolPatch) → j < k → slice_get some' j ≡ Some q → slice_get some' k ≡ Some r → q.at < r.at) → slice_get some' i ≡ Some p → patch_at some' p.at ≡ Some p.patch
  found_there [] i p rise here = let wrong : None ≡ Some p = here in absurd (cc)
  found_there (q ∷ qs) zero p rise here =
      let same : Some q ≡ Some p = here in
      let e : q ≡ p = cc in
      rw (e, eqb-refl p.at) refl
  found_there (q ∷ qs) (suc i) p rise here =
      let less : q.at < p.at = rise 0 (suc i) q p (omega arith) refl here in
      rw (eqb-less q.at p.at less) (found_there qs i p (λ j k a b apart is is_too. rise (suc j) (suc k) a b (omega (arith, apart)) is is_too) here)

  module _ (i : ℕ) (p : PoolPatch) (here : slice_get some i ≡ Some p) (pools : List PoolTable) (sofar : InstalledLast old some (i + 1) pools) where
    -- none of the last patches is for the pool of the next one
    none_so_far : patch_at (drop (i + 1) some) p.at ≡ None
    none_so_far = patch_none (drop (i + 1) some) p.at (λ j q is. λ e. omega (arith, below.rise i (i + 1 + j) p q (omega arith) here (behind (i + 1) some j q is), e))

    -- that pool is as it was
    pub next_pool : (q : PoolTable) → slice_get pools p.at ≡ Some q → slice_get old p.at ≡ Some q
    next_pool q is = as_it_was (slice_get old p.at) (sym (sofar.each p.at ∙ ap (λ o. option_map (λ (r : PoolTable). with_patch r o) (slice_get old p.at)) none_so_far) ∙ is)
      where
        as_it_was : (o : Option PoolTable) → option_map (λ (r : PoolTable). with_patch r None) o ≡ Some q → o ≡ Some q
        as_it_was None e = e
        as_it_was (Some r) e = e

    -- it is there
    pub next_inside : p.at < length pools
    next_inside = omega (arith, below.below i p here, sofar.long)

    -- and gets its other sets
    pub next_fits : (q : PoolTable) → slice_get pools p.at ≡ Some q → IsPatchFor q.groups p.patch
    next_fits q is =
        let inside : p.at < length old = below.below i p here in
        fits.each p.at q p.patch (next_pool q is)
        (slice_get-map (patch_at some) (range_with_len 0 (length old)) p.at ∙ ap (option_map (patch_at some)) (in_range (length old) p.at inside) ∙ ap (λ o. Some o) (found_there some i p below.rise here))

    -- one more
    pub last_more : (q : PoolTable) → slice_get pools p.at ≡ Some q → InstalledLast old some i (set pools p.at (with_patch q (Some p.patch)))
    last_more q is =
        let opened : drop i some ≡ p ∷ drop (i + 1) some = drop_more some i p (slice_get_within some i p here) ∙ ap (λ r. r ∷ drop (i + 1) some) (get_or_from_slice_get some i p p here) in
        record {
          long = length-set pools p.at (with_patch q (Some p.patch)) ∙ sofar.long;
          each = λ k. elim (cases_Bool (eqb p.at k)) [
            | inl same ↦
                let e : p.at ≡ k = eqb-true p.at k same in
                let now : slice_get (set pools p.at (with_patch q (Some p.patch))) k ≡ Some (with_patch q (Some p.patch)) = rw (← e) (get_set_same pools p.at (with_patch q (Some p.patch)) next_inside) in
                let was : slice_get old k ≡ Some q = rw (← e) (next_pool q is) in
                let found : patch_at (drop i some) k ≡ Some p.patch = rw (opened, same) refl in
                now ∙ sym (ap (λ o. option_map (λ (r : PoolTable). with_patch r (patch_at (drop i some) k)) o) was ∙ ap (λ o. Some (with_patch q o)) found)
            | inr other ↦
                let apart : k ≢ p.at = λ e. absurd (both_ways _ other (rw e (eqb-refl p.at))) in
                let found : patch_at (drop i some) k ≡ patch_at (drop (i + 1) some) k = rw (opened, other) refl in
                get_set_other pools p.at k (with_patch q (Some p.patch)) apart ∙ sofar.each k ∙ ap (λ o. option_map (λ (r : PoolTable). with_patch r o) (slice_get old k)) (sym found)
          ];
        }

  -- and all of them
  pub last_end : (pools : List PoolTable) (i : ℕ) → i ≡ 0 → InstalledLast old some i pools → pools ≡ map (λ e. with_patch e.0 e.1) (zip old (patches_by some (length old)))
  last_end pools i none sofar =
      let as_many : length (patches_by some (length old)) ≡ length old = fits.same in
      same_lists pools (map (λ e. with_patch e.0 e.1) (zip old (patches_by some (length old)))) (sofar.long ∙ sym (length-map (zip old (patches_by some (length old))) (λ e. with_patch e.0 e.1) ∙ long_zip old (patches_by some (length old)) as_many)) (λ k inside.
      let few : k < length old = omega (arith, sofar.long) in
      let q = element old k few in
      let one = slice_get-map (patch_at some) (range_with_len 0 (length old)) k ∙ ap (option_map (patch_at some)) (in_range (length old) k few) in
      sofar.each k ∙ ap (λ n. option_map (λ (r : PoolTable). with_patch r (patch_at (drop n some) k)) (slice_get old k)) none ∙ ap (option_map (λ (r : PoolTable). with_patch r (patch_at some k))) q.1
      ∙ sym (slice_get-map (λ e. with_patch e.0 e.1) (zip old (patches_by some (length old))) k ∙ ap (option_map (λ e. with_patch e.0 e.1)) (get_zip old (patches_by some (length old)) k q.0 (patch_at some k) q.1 one)))
