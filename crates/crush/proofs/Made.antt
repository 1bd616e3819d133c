-- Buckets that passed the tests are a forest.
use Rattle.std.proofs.Common.{◌≡◌, ℕ, ◌<◌, true, false, List, length, get_or, Some, None, IsPermutation, sym, ap, ◌∙◌, arith}
use Rattle.std.proofs.lemmas.Bool.{and_parts, and_from, both_ways}
use Rattle.std.proofs.lemmas.Int.{ints, by_lt_z}
use Rattle.std.proofs.lemmas.List.{get_or_default}
use Rattle.buckets.specs.declared.bucket.Bucket.{Bucket}
use Rattle.refusal.specs.declared.refused.Refusal.TheVariants.{BadForest}
use Rattle.refusal.specs.Outcomes.{refused_unless}
use Rattle.crush.specs.WellFormed.{forest_limits_ok, has_own_ids, forest_ok, IsForest, IsDescending, IsNotAscending}
use Rattle.crush.proofs.ForestLimits.{limits-devices, limits-most, has_items_below-more}
use Rattle.crush.proofs.OwnIds.{own_ids-twice}
use Rattle.crush.proofs.IdSearches.{no_bucket}
use Rattle.crush.proofs.Sorted.{forest_ok-moved}

-- in order, buckets of their own ids have falling ids
pub descending-own : (buckets : List Bucket) → IsNotAscending buckets → has_own_ids buckets ≡ true → IsDescending buckets
descending-own buckets sorted own i j d below in_range =
    let at : (k : ℕ) → k < length buckets → (get_or buckets k no_bucket).id ≡ (get_or buckets k d).id = λ k lt. ap (λ (b : Bucket). b.id) (get_or_default buckets k no_bucket d lt) in
    by_lt_z (get_or buckets j d).id (get_or buckets i d).id (λ lt. lt) (λ le.
    let same : (get_or buckets i no_bucket).id ≡ (get_or buckets j no_bucket).id = omega (arith, ints, at i (omega arith), at j in_range, le, sorted i j d below in_range) in
    absurd (both_ways _ (own_ids-twice buckets i j below in_range same) own))

-- well-formed forests have buckets of their own ids
pub own-ok : (buckets : List Bucket) (max_osd : ℕ) → forest_ok buckets max_osd ≡ true → has_own_ids buckets ≡ true
own-ok buckets max_osd ok = (and_parts _ _ (and_parts _ _ (and_parts _ _ ok).0).0).0

-- buckets that passed are a forest
pub forest-passed : (buckets : List Bucket) (max_osd : ℕ) → IsNotAscending buckets → forest_limits_ok buckets max_osd ≡ true → forest_ok buckets max_osd ≡ true → IsForest buckets
forest-passed buckets max_osd sorted limits ok =
    let others = and_parts _ _ ok in
    let items = and_parts _ _ others.0 in
    let ids = and_parts _ _ items.0 in
    let below = has_items_below-more buckets max_osd 4096 (limits-devices buckets max_osd limits) ids.1 in
    record {
      descending = descending-own buckets sorted ids.0;
      limits = limits-most buckets max_osd limits;
      lawful = and_from _ _ (and_from _ _ (and_from _ _ ids.0 below) items.1) others.1;
    }

-- what is wrong with buckets, by what is wrong with them in order
module _ (given ordered : List Bucket) (moved : IsPermutation given ordered) (max_osd : ℕ) where
  pub fault-forest : forest_ok ordered max_osd ≡ false → refused_unless (forest_ok given max_osd) BadForest ≡ Some BadForest
  fault-forest bad = rw (sym (forest_ok-moved given ordered moved max_osd) ∙ bad)

  pub fault-none : forest_ok ordered max_osd ≡ true → refused_unless (forest_ok given max_osd) BadForest ≡ None
  fault-none ok = rw (sym (forest_ok-moved given ordered moved max_osd) ∙ ok)
