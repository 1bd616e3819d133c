-- The bucket of a type above an item, by a search among all buckets.
use Rattle.std.proofs.Common.{◌≡◌, ◌↔◌, ◌∙◌, refl, sym, ap, ℕ, zero, suc, ◌<◌, ◌≤◌, Bool, true, false, ◌&&◌, ℤ, pos, List, [], ◌∷◌, length, get_or, Option, Some, None, IsTrue, inl, inr, arith, eqb, eq-eqb}
use mathlib.Core.Bool.{false≢true}
use Rattle.std.specs.List.{find}
use Rattle.std.specs.Option.{option_map}
use Rattle.std.specs.Ordering.{int_eq}
use Rattle.std.proofs.lemmas.Bool.{cases_Bool, and_parts, and_from, eqb-true}
use Rattle.std.proofs.lemmas.Bool.Decides.{Decides-int_eq}
use Rattle.keylist.proofs.Counts.{find-place}
use Rattle.keylist.proofs.KeyedFinds.{find-none}
use Rattle.buckets.specs.declared.bucket.Bucket.{Bucket}
use Rattle.crush.specs.Forest.{bucket_at, level_of}
use Rattle.crush.specs.Paths.{has_item, is_above, is_ancestor, ancestor_of, IsAncestor}
use Rattle.crush.specs.WellFormed.{IsForest}
use Rattle.crush.proofs.Above.{IsPath, some-and, above-found}
use Rattle.crush.proofs.Climbs.{above-far}

-- where a search finds nothing, nothing passes
pub none_passes : {X : Type 0} (p : X → Bool) (xs : List X) (k : ℕ) (x : X) → find p xs ≡ None → k < length xs → get_or xs k x ≡ x → p x ≡ false
none_passes p [] k x none inside at = absurd (omega arith)
none_passes p (y ∷ ys) zero x none inside at = elim (cases_Bool (p y)) [
  | inl here ↦ let wrong : Some y ≡ None = rw here at none in absurd (cc)
  | inr other ↦ rw at at other
]
none_passes p (y ∷ ys) (suc k) x none inside at = elim (cases_Bool (p y)) [
  | inl here ↦ let wrong : Some y ≡ None = rw here at none in absurd (cc)
  | inr other ↦ none_passes p ys k x (rw other at none) (omega arith) at
]

-- a path begins at a bucket of the forest
top_there : (buckets : List Bucket) (between : List ℤ) (top item : ℤ) → IsPath buckets top between item → (b : Bucket) × (bucket_at buckets top ≡ Some b)
top_there buckets [] top item held = let there = some-and (λ b. IsTrue (has_item item b)) (bucket_at buckets top) held in (there.0, there.1)
top_there buckets (next ∷ between) top item (held, path) = let there = some-and (λ b. IsTrue (has_item next b)) (bucket_at buckets top) held in (there.0, there.1)

module _ (buckets : List Bucket) (item : ℤ) (level : ℕ) where
  found_is : (b : Bucket) → find (is_ancestor buckets item level) buckets ≡ Some b → IsAncestor buckets item level b.id
  found_is b found =
      let at = find-place (is_ancestor buckets item level) buckets b found in
      let parts = and_parts (eqb (level_of buckets b.id) level) (is_above buckets b.id item) at.3 in
      record { above = parts.1; of_level = eqb-true (level_of buckets b.id) level parts.0 }

  none_is : (a : ℤ) → find (is_ancestor buckets item level) buckets ≡ None → IsAncestor buckets item level a → ⊥
  none_is a none is =
      let above = above-found buckets a item is.above in
      let there = top_there buckets above.between a item above.path in
      let at = find-place (λ b. int_eq b.id a) buckets there.0 there.1 in
      let same : there.0.id ≡ a = (Decides-int_eq there.0.id a).0 at.3 in
      let fails = none_passes (is_ancestor buckets item level) buckets at.0 there.0 none at.1 at.2 in
      let passes : is_ancestor buckets item level there.0 ≡ true = rw same (and_from (eqb (level_of buckets a) level) (is_above buckets a item) (eq-eqb (level_of buckets a) level is.of_level) is.above) in
      absurd (false≢true (sym fails ∙ passes))

  -- what is known as the bucket of the type above the item is what the search finds
  pub ancestor_is : (r : Option ℤ) → ((a : ℤ) → (r ≡ Some a) ↔ IsAncestor buckets item level a) → r ≡ ancestor_of buckets item level
  unfolding ancestor_of
  ancestor_is r is = by_found (find (is_ancestor buckets item level) buckets) refl r refl
    where
      by_found : (o : Option Bucket) → find (is_ancestor buckets item level) buckets ≡ o → (q : Option ℤ) → r ≡ q → r ≡ option_map (λ b. b.id) o
      by_found (Some b) found q e = (is b.id).1 (found_is b found)
      by_found None found None e = e
      by_found None found (Some a) e = absurd (none_is a found ((is a).0 e))

-- a device past the greatest has no ancestor
pub ancestor_far : (buckets : List Bucket) (n level : ℕ) → IsForest buckets → 4096 ≤ n → ancestor_of buckets (pos n) level ≡ None
unfolding ancestor_of
ancestor_far buckets n level forest far =
    ap (option_map (λ b. b.id)) (find-none (is_ancestor buckets (pos n) level) buckets (λ k d inside. rw (above-far buckets forest (get_or buckets k d).id n far) (no _)))
  where
    no : (b : Bool) → (b && false) ≡ false
    no true = refl
    no false = refl
