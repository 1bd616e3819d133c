-- The lowest group that passes a test, sought among those that are known to stand on an OSD.
use Rattle.std.proofs.Common.{◌≡◌, ◌∙◌, refl, sym, ap, ℕ, ◌+◌, ◌<◌, ◌≤◌, Bool, true, false, not, ◌&&◌, List, [], ◌∷◌, length, get_or, take, position, Option, Some, None, eqb, inl, inr, arith}
use mathlib.Core.Bool.{false≢true}
use Rattle.std.specs.Prelude.{◌⊎◌, nat_lt, IfSome, IsSomeAnd}
use Rattle.std.specs.List.{list_any, count_by}
use Rattle.std.proofs.lemmas.Bool.{cases_Bool, cases_lt, false_from_ne_true, and_parts, and_from}
use Rattle.std.proofs.lemmas.Bool.Decides.{nat_tests}
use Rattle.std.proofs.lemmas.List.{take_all, length-take-le, get_or-take, get_or_default}
use Rattle.std.proofs.lemmas.List.Folds.{list_any_none}
use Rattle.std.proofs.lemmas.List.Quantifiers.{position-Some}
use Rattle.maptypes.specs.Pools.{PoolFacts}
use Rattle.maptypes.specs.Sets.{is_of, stands}
use Rattle.osdmap.specs.Maps.{ClusterMap}
use Rattle.keylist.proofs.Counts.{count_by-cons}
use Rattle.balancer.specs.declared.group.Group.{Group}
use Rattle.balancer.specs.Boards.{may_go}
use Rattle.balancer.specs.Leaving.{may_leave}
use Rattle.balancer.specs.Standing.{row_of, lowest_with, HasNumber, AreRowsOf}
use Rattle.balancer.proofs.OsdsNoneLeaves.{goer_leaves}
use Rattle.balancer.proofs.RowsOfGroups.{place_in}
use Rattle.balancer.proofs.MarksHold.{none_found}

-- the lowest of some numbers whose group passes, if one does
pub record IsLowest (q : Group → Bool) (gs : List Group) (row : List ℕ) (lowest : Option ℕ) : Type 0 where
  pub found : IfSome lowest (λ n. (n < length gs) × ((g : Group) → get_or gs n g ≡ g → q g ≡ true))
  pub least : (k n : ℕ) (g : Group) → k < length row → get_or row k n ≡ n → get_or gs n g ≡ g → q g ≡ true → IsSomeAnd lowest (λ l. l ≤ n)

-- a group for where there is none
no_group : Group
no_group = record { places = []; pairs = []; is_fixed = false }

-- of none there is none
pub lowest_none : (q : Group → Bool) (gs : List Group) → IsLowest q gs [] None
lowest_none q gs = record { found = tt; least = λ k n g inside at is passes. absurd (omega (arith, inside)) }

-- two groups at one place
same_group : (gs : List Group) (n : ℕ) (g h : Group) → n < length gs → get_or gs n g ≡ g → get_or gs n h ≡ h → g ≡ h
same_group gs n g h inside is_g is_h = sym is_g ∙ get_or_default gs n g h inside ∙ is_h

-- one number more
pub lowest_more : (q : Group → Bool) (gs : List Group) (row : List ℕ) (i n : ℕ) (h : Group) (lowest : Option ℕ) → IsLowest q gs (take i row) lowest
    → i < length row → n ≡ get_or row i n → n < length gs → get_or gs n h ≡ h → IsLowest q gs (take (i + 1) row) (lowest_with (q h) n lowest)
lowest_more q gs row i n h lowest is inside at there is_h = by_lowest lowest is
  where
    found_here : q h ≡ true → (n < length gs) × ((g : Group) → get_or gs n g ≡ g → q g ≡ true)
    found_here passes = (there, λ g is_g. ap q (same_group gs n g h there is_g is_h) ∙ passes)

    -- a number of the longer row is one of those before, or the one that came
    of_more : (k m : ℕ) → k < length (take (i + 1) row) → get_or (take (i + 1) row) k m ≡ m → ((k < length (take i row)) × (get_or (take i row) k m ≡ m)) ⊎ (m ≡ n)
    of_more k m below is_m = elim (cases_lt k i) [
      | inl earlier ↦ inl (omega (arith, length-take-le i row (omega (arith, inside)), earlier), get_or-take i row k m earlier ∙ sym (get_or-take (i + 1) row k m (omega (arith, earlier))) ∙ is_m)
      | inr late ↦
          let same : k ≡ i = omega (arith, late, below, length-take-le (i + 1) row (omega (arith, inside))) in
          inr (sym is_m ∙ get_or-take (i + 1) row k m (omega (arith, same)) ∙ ap (λ j. get_or row j m) same ∙ get_or_default row i m n inside ∙ sym at)
    ]

    by_lowest : (l : Option ℕ) → IsLowest q gs (take i row) l → IsLowest q gs (take (i + 1) row) (lowest_with (q h) n l)
    by_lowest None is' = elim (cases_Bool (q h)) [
      | inl passes ↦ rw passes (record {
        found = found_here passes;
        least = λ k m g below is_m is_g yes. elim (of_more k m below is_m) [
          | inl (earlier, was) ↦ absurd (is'.least k m g earlier was is_g yes)
          | inr same ↦ omega (arith, same)
        ];
      })
      | inr fails ↦ rw fails (record {
        found = tt;
        least = λ k m g below is_m is_g yes. elim (of_more k m below is_m) [
          | inl (earlier, was) ↦ is'.least k m g earlier was is_g yes
          | inr same ↦ absurd (false≢true (sym fails ∙ ap q (same_group gs n h g there is_h (rw same at is_g)) ∙ yes))
        ];
      })
    ]
    by_lowest (Some l) is' = elim (cases_Bool (nat_lt n l && q h)) [
      | inl both ↦
          let parts = and_parts (nat_lt n l) (q h) both in
          let lower : n < l = grind (arith, nat_tests, parts.0) in
          rw both (record {
            found = found_here parts.1;
            least = λ k m g below is_m is_g yes. elim (of_more k m below is_m) [
              | inl (earlier, was) ↦ omega (arith, is'.least k m g earlier was is_g yes, lower)
              | inr same ↦ omega (arith, same)
            ];
          })
      | inr not_both ↦ rw not_both (record {
        found = is'.found;
        least = λ k m g below is_m is_g yes. elim (of_more k m below is_m) [
          | inl (earlier, was) ↦ is'.least k m g earlier was is_g yes
          | inr same ↦ elim (cases_lt n l) [
            | inr above ↦ omega (arith, same, above)
            | inl lower ↦
                let passes : q h ≡ true = ap q (same_group gs n h g there is_h (rw same at is_g)) ∙ yes in
                let test : nat_lt n l ≡ true = grind (arith, nat_tests, lower) in
                absurd (false≢true (sym not_both ∙ and_from (nat_lt n l) (q h) test passes))
          ]
        ];
      })
    ]

-- the lowest of all that pass, where those that pass are all among the numbers
pub lowest_is : (q : Group → Bool) (gs : List Group) (row : List ℕ) (lowest : Option ℕ) → IsLowest q gs row lowest
    → ((n : ℕ) (g : Group) → n < length gs → get_or gs n g ≡ g → q g ≡ true → HasNumber n row) → lowest ≡ position q gs
lowest_is q gs row lowest is covers = by_position (position q gs) refl lowest is
  where
    by_position : (o : Option ℕ) → position q gs ≡ o → (l : Option ℕ) → IsLowest q gs row l → l ≡ o
    by_position None none None is' = refl
    by_position None none (Some n) is' =
        let g : Group = get_or gs n no_group in
        let at : get_or gs n g ≡ g = get_or_default gs n g no_group is'.found.0 in
        absurd (false≢true (sym (none_found q gs none n no_group is'.found.0) ∙ is'.found.1 g at))
    by_position (Some i) some l is' =
        let there = position-Some q gs i no_group some in
        let g : Group = get_or gs i no_group in
        let at : get_or gs i g ≡ g = get_or_default gs i g no_group there.0 in
        let (k, below, is_i) = place_in i row (covers i g there.0 at there.1) in
        by_least i there.2 l is' (is'.least k i g below is_i at there.1)
      where
        by_least : (i' : ℕ) → ((k : ℕ) → k < i' → q (get_or gs k no_group) ≡ false) → (l' : Option ℕ) → IsLowest q gs row l' → IsSomeAnd l' (λ n. n ≤ i') → l' ≡ Some i'
        by_least i' before None is'' none = absurd none
        by_least i' before (Some n) is'' low = elim (cases_lt n i') [
          | inr not_lower ↦ let same : n ≡ i' = omega (arith, not_lower, low) in ap (λ j. Some j) same
          | inl lower ↦
              let h : Group = get_or gs n no_group in
              let at_n : get_or gs n h ≡ h = get_or_default gs n h no_group is''.found.0 in
              absurd (false≢true (sym (before n lower) ∙ is''.found.1 h at_n))
        ]

-- ---- those that may go or leave stand on the OSD

-- what is counted once is there
counted_there : {X : Type 0} (p : X → Bool) (xs : List X) → eqb (count_by p xs) 1 ≡ true → list_any p xs ≡ true
counted_there p [] one = absurd (false≢true one)
counted_there p (x ∷ xs) one = elim (cases_Bool (p x)) [
  | inl here ↦ rw here refl
  | inr other ↦
      let less : count_by p (x ∷ xs) ≡ count_by p xs = count_by-cons p x xs ∙ rw other (omega arith) in
      rw other (counted_there p xs (sym (ap (λ k. eqb k 1) less) ∙ one))
]

-- a group that may leave an OSD stands there
pub leaver_stands : (p : PoolFacts) (from : ℕ) (g : Group) → may_leave p from g ≡ true → stands from g.places ≡ true
unfolding may_leave
leaver_stands p from g leaves =
    let moves = not g.is_fixed in
    let once = eqb (count_by (is_of from) g.places) 1 in
    let parts = and_parts (moves && once) (nat_lt (length g.pairs) p.size) leaves in
    counted_there (is_of from) g.places (and_parts moves once parts.0).1

-- so does one that may go from there
pub goer_stands : (m : ClusterMap) (p : PoolFacts) (from to : ℕ) (g : Group) → may_go m p from to g ≡ true → stands from g.places ≡ true
goer_stands m p from to g goes = leaver_stands p from g (goer_leaves m p from to g goes)

-- where none of those known at an OSD may leave it, none may
pub none_of_row : (p : PoolFacts) (from : ℕ) (gs : List Group) (rows : List (List ℕ)) → AreRowsOf gs rows → from < length rows
    → ((k n : ℕ) (g : Group) → k < length (row_of rows from) → get_or (row_of rows from) k n ≡ n → get_or gs n g ≡ g → may_leave p from g ≡ false)
    → list_any (may_leave p from) gs ≡ false
none_of_row p from gs rows are below none = list_any_none (may_leave p from) gs (λ n d inside. false_from_ne_true _ (λ leaves.
    let g : Group = get_or gs n d in
    let at : get_or gs n g ≡ g = get_or_default gs n g d inside in
    let (k, in_row, is_n) = place_in n (row_of rows from) (are.each from n g below inside at (leaver_stands p from g leaves)) in
    absurd (false≢true (sym (none k n g in_row is_n at) ∙ leaves))))

-- ---- the search through a list

-- the next number of an OSD's list
pub lowest_next : (q : Group → Bool) (gs : List Group) (rows : List (List ℕ)) (from i : ℕ) (lowest next : Option ℕ) → AreRowsOf gs rows
    → IsLowest q gs (take i (row_of rows from)) lowest → i < length (row_of rows from)
    → ((g : Group) → get_or gs (get_or (row_of rows from) i 0) g ≡ g → next ≡ lowest_with (q g) (get_or (row_of rows from) i 0) lowest)
    → IsLowest q gs (take (i + 1) (row_of rows from)) next
lowest_next q gs rows from i lowest next are so_far inside is =
    let n : ℕ = get_or (row_of rows from) i 0 in
    let there : n < length gs = are.there from i 0 inside in
    let g : Group = get_or gs n no_group in
    let at : get_or gs n g ≡ g = get_or_default gs n g no_group there in
    rw (is g at) (lowest_more q gs (row_of rows from) i n g lowest so_far inside (get_or_default (row_of rows from) i 0 n inside) there at)

-- at the end of the list it is the first of all
pub lowest_of_all : (q : Group → Bool) (gs : List Group) (rows : List (List ℕ)) (from i : ℕ) (lowest : Option ℕ) → AreRowsOf gs rows → from < length rows
    → ((g : Group) → q g ≡ true → stands from g.places ≡ true) → IsLowest q gs (take i (row_of rows from)) lowest → length (row_of rows from) ≤ i
    → lowest ≡ position q gs
lowest_of_all q gs rows from i lowest are below stand so_far ends =
    lowest_is q gs (row_of rows from) lowest (rw (take_all i (row_of rows from) ends) at so_far) (λ n g inside at passes. are.each from n g below inside at (stand g passes))
