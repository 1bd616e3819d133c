-- Buckets in order, and whether each has an id of its own.
use Rattle.std.proofs.Common.{◌≡◌, ◌≢◌, ℕ, ◌+◌, ◌<◌, ◌≤◌, Bool, true, false, List, length, get_or, eqb, ◌<ℤ◌, IsTrue, refl, sym, inl, inr, arith, eq-eqb}
use Rattle.std.specs.Prelude.{int_lt}
use Rattle.std.specs.Ordering.{int_eq}
use Rattle.std.specs.List.{IsAllAdjacentAnswer}
use Rattle.std.proofs.lemmas.Bool.{cases_lt}
use Rattle.std.proofs.lemmas.Bool.Decides.{nat_tests}
use Rattle.std.proofs.lemmas.Int.{ints}
use Rattle.std.proofs.lemmas.List.Folds.{list_all_at}
use Rattle.buckets.specs.declared.bucket.Bucket.{Bucket}
use Rattle.crush.specs.WellFormed.{buckets_with, has_own_ids, IsDescending, IsNotAscending}
use Rattle.keylist.proofs.Counts.{count_by-two, count_by-one}
use Rattle.crush.proofs.IdSearches.{no_bucket, int_eq-yes, int_eq-no}
use Rattle.keylist.proofs.Each.{list_all-from}

-- falling ids are the buckets' own
pub own_ids-descending : (buckets : List Bucket) → IsDescending buckets → has_own_ids buckets ≡ true
own_ids-descending buckets falls = list_all-from (λ b. eqb (buckets_with buckets b.id) 1) buckets no_bucket (λ k in_range. eq-eqb _ _ (one k in_range))
  where
    differs : (k j : ℕ) → k < length buckets → j < length buckets → j ≢ k → (get_or buckets j no_bucket).id ≢ (get_or buckets k no_bucket).id
    differs k j k_in j_in ne e = elim (cases_lt k j) [
      | inl lt ↦ omega (arith, ints, falls k j no_bucket lt j_in, e)
      | inr ge ↦ omega (arith, ints, falls j k no_bucket (omega arith) k_in, e)
    ]

    one : (k : ℕ) → k < length buckets → buckets_with buckets (get_or buckets k no_bucket).id ≡ 1
    one k in_range =
        let id = (get_or buckets k no_bucket).id in
        count_by-one (λ b. int_eq b.id id) buckets k no_bucket in_range (int_eq-yes id id refl) (λ j lt ne. int_eq-no (get_or buckets j no_bucket).id id (differs k j in_range lt ne))

-- an id at two places is nobody's own
pub own_ids-twice : (buckets : List Bucket) (i j : ℕ) → i < j → j < length buckets → (get_or buckets i no_bucket).id ≡ (get_or buckets j no_bucket).id → has_own_ids buckets ≡ false
own_ids-twice buckets i j below in_range same =
    let id = (get_or buckets i no_bucket).id in
    let two : 2 ≤ buckets_with buckets id = count_by-two (λ b. int_eq b.id id) buckets i j no_bucket below in_range (int_eq-yes id id refl) (int_eq-yes (get_or buckets j no_bucket).id id (sym same)) in
    list_all_at (λ b. eqb (buckets_with buckets b.id) 1) buckets i no_bucket (omega arith) (grind (arith, nat_tests))

-- in order, the ids are the buckets' own just where they fall
pub own_ids-tested : (buckets : List Bucket) → IsNotAscending buckets → (r : Bool) → IsAllAdjacentAnswer (λ x y b. b ≡ int_lt y.id x.id) buckets r → (r ≡ has_own_ids buckets) × (IsTrue r → IsDescending buckets)
own_ids-tested buckets sorted true adjacent =
    let falls : IsDescending buckets = λ i j d lt in_range.
    let next : (get_or buckets (i + 1) d).id <ℤ (get_or buckets i d).id = let test = adjacent i d (omega arith) in grind (arith, ints) in
    elim (cases_lt (i + 1) j) [
      | inl beyond ↦ omega (arith, ints, next, sorted (i + 1) j d beyond in_range)
      | inr at ↦
          let here : j ≡ i + 1 = omega arith in
          rw here next
    ]
    in (sym (own_ids-descending buckets falls), λ _. falls)
own_ids-tested buckets sorted false ties =
    let k = ties.0 in
    let order = sorted k (k + 1) no_bucket (omega arith) ties.1 in
    let same : (get_or buckets k no_bucket).id ≡ (get_or buckets (k + 1) no_bucket).id = grind (arith, ints, ties.2 no_bucket) in
    (sym (own_ids-twice buckets k (k + 1) (omega arith) ties.1 same), λ e. absurd (cc))
