-- Where the bucket of an id stands among buckets of falling ids.
use Rattle.std.proofs.Common.{◌≡◌, ◌≢◌, ℕ, ◌<◌, ◌≤◌, true, false, List, [], length, get_or, position, nat_lt, Ordering, Less, Equal, Greater, Result, Ok, Err, Option, Some, ℤ, pos, ◌<ℤ◌, ◌≤ℤ◌, refl, sym, ap, ◌∙◌, inl, inr, arith}
use Rattle.std.specs.Ordering.{int_cmp, int_eq, ordering_index, MatchOrdering}
use Rattle.std.specs.List.{position_or_len}
use Rattle.std.specs.List.Sorted.{IsSearchInRange, IsBinarySearchResult, IsNonDecreasingBy}
use Rattle.std.specs.Result.{result_ok}
use Rattle.std.proofs.lemmas.Bool.{cases_lt}
use Rattle.std.proofs.lemmas.Cmp.{int_ranked}
use Rattle.std.proofs.lemmas.Bool.Decides.{nat_tests, Decides-int_eq}
use Rattle.std.proofs.lemmas.Int.{ints}
use Rattle.std.proofs.lemmas.List.{get_or_default}
use Rattle.std.proofs.lemmas.List.Sums.{position_or_len_is}
use Rattle.std.proofs.lemmas.List.Sorted.{IsNonDecreasingBy-from_default}
use Rattle.buckets.specs.declared.bucket.Bucket.{Bucket}
use Rattle.buckets.specs.declared.bucket.BucketKind.TheVariants.{Tree}
use Rattle.crush.specs.WellFormed.{IsDescending}

-- a bucket to read past the end of a list
pub no_bucket : Bucket
no_bucket = record { id = pos 0; level = 0; kind = Tree; items = [] }

-- two ids that differ
pub int_eq-no : (a b : ℤ) → a ≢ b → int_eq a b ≡ false
int_eq-no a b ne = grind (arith, Decides-int_eq a b)

-- and two that are the same
pub int_eq-yes : (a b : ℤ) → a ≡ b → int_eq a b ≡ true
int_eq-yes a b e = (Decides-int_eq a b).1 e

-- the comparisons with id rise where the ids fall
rises : (id x y : ℤ) → y ≤ℤ x → ordering_index (int_cmp id x) ≤ ordering_index (int_cmp id y)
rises id x y le = by_cmp (int_cmp id x) (int_cmp id y) (int_ranked id x _ refl) (int_ranked id y _ refl)
  where
    by_cmp : (o q : Ordering) → MatchOrdering o (id <ℤ x) (id ≡ x) (x <ℤ id) → MatchOrdering q (id <ℤ y) (id ≡ y) (y <ℤ id) → ordering_index o ≤ ordering_index q
    by_cmp Less q a b = omega arith
    by_cmp Equal Less a b = absurd (omega (arith, ints, a, b, le))
    by_cmp Equal Equal a b = omega arith
    by_cmp Equal Greater a b = omega arith
    by_cmp Greater Less a b = absurd (omega (arith, ints, a, b, le))
    by_cmp Greater Equal a b = absurd (omega (arith, ints, a, b, le))
    by_cmp Greater Greater a b = omega arith

-- what a comparison tells
from_less : (x y : ℤ) → int_cmp x y ≡ Less → x <ℤ y
from_less x y e = int_ranked x y Less (sym e)

-- the same of equal ones
from_equal : (x y : ℤ) → int_cmp x y ≡ Equal → x ≡ y
from_equal x y e = int_ranked x y Equal (sym e)

-- the same the other way round
from_greater : (x y : ℤ) → int_cmp x y ≡ Greater → y <ℤ x
from_greater x y e = int_ranked x y Greater (sym e)

module _ (buckets : List Bucket) (falls : IsDescending buckets) (id : ℤ) where
  -- the comparisons rise along the list, as a binary search asks
  comparisons_rise : IsNonDecreasingBy (λ b. ordering_index (int_cmp id b.id)) buckets
  comparisons_rise = IsNonDecreasingBy-from_default (λ b. ordering_index (int_cmp id b.id)) buckets no_bucket (λ i j le in_range. rises id _ _ (upto i j le in_range))
    where
      upto : (i j : ℕ) → i ≤ j → j < length buckets → (get_or buckets j no_bucket).id ≤ℤ (get_or buckets i no_bucket).id
      upto i j le in_range = elim (cases_lt i j) [
        | inl lt ↦ omega (arith, ints, falls i j no_bucket lt in_range)
        | inr ge ↦
            let same : j ≡ i = omega arith in
            rw same (omega (arith, ints))
      ]

  -- a place where the id stands is the first one
  first_at : (at : ℕ) → at < length buckets → (get_or buckets at no_bucket).id ≡ id → position_or_len (λ b. int_eq b.id id) buckets ≡ at
  first_at at in_range here = position_or_len_is (λ b. int_eq b.id id) buckets at no_bucket (omega arith)
      (λ k lt. int_eq-no (get_or buckets k no_bucket).id id (λ e. omega (arith, ints, falls k at no_bucket lt in_range, e, here)))
      (λ _. int_eq-yes (get_or buckets at no_bucket).id id here)

  -- a place where the id stands is the one sought
  pub met : (at : ℕ) (b : Bucket) → true ≡ nat_lt at (length buckets) → b ≡ get_or buckets at b → true ≡ int_eq b.id id → Some at ≡ position (λ c. int_eq c.id id) buckets
  met at b inside here same =
      let lt : at < length buckets = grind (arith, nat_tests, inside) in
      let is : b ≡ get_or buckets at no_bucket = here ∙ get_or_default buckets at b no_bucket lt in
      let first = first_at at lt (ap (λ c. c.id) (sym is) ∙ (Decides-int_eq b.id id).0 (sym same)) in
      rw first (grind (arith, nat_tests))

  -- an id that stands nowhere
  first_none : ((k : ℕ) → k < length buckets → (get_or buckets k no_bucket).id ≢ id) → position_or_len (λ b. int_eq b.id id) buckets ≡ length buckets
  first_none none = position_or_len_is (λ b. int_eq b.id id) buckets (length buckets) no_bucket (omega arith)
      (λ k lt. int_eq-no (get_or buckets k no_bucket).id id (none k lt))
      (λ lt. absurd (omega arith))

  -- a binary search by the falling ids finds the place
  pub searched : (r : Result ℕ ℕ) → IsSearchInRange r (length buckets) → IsBinarySearchResult (λ b. int_cmp id b.id) buckets r → result_ok r ≡ position (λ b. int_eq b.id id) buckets
  searched (Ok at) in_range equal =
      let here = first_at at in_range (sym (from_equal id _ (equal no_bucket))) in
      rw here (grind (arith, nat_tests))
  searched (Err at) in_range parted =
      let none = first_none (λ k lt e. elim (cases_lt k at) [
        | inl below ↦ omega (arith, ints, e, from_less id _ ((parted comparisons_rise).0 k no_bucket (omega arith) below))
        | inr above ↦ omega (arith, ints, e, from_greater id _ ((parted comparisons_rise).1 k no_bucket above lt))
      ]) in
      rw none (grind (arith, nat_tests))

-- a search for an id that was passed on, as `shown`, in a list that was lent, as `lent`
pub placed : (buckets lent : List Bucket) (id shown : ℤ) (r : Option ℕ) → shown ≡ id → lent ≡ buckets → r ≡ position (λ b. int_eq b.id shown) lent → r ≡ position (λ b. int_eq b.id id) buckets
placed buckets lent id shown r same_id same e = rw (← same_id, ← same) e
