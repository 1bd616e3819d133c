-- Where the buckets of items stand.
use Rattle.std.proofs.Common.{◌≡◌, ◌≢◌, ℕ, ◌+◌, ◌<◌, ◌≤◌, Bool, true, false, cond, ◌||◌, List, ◌∷◌, length, get_or, set, take, drop, find, slice_get, replicate, ℤ, pos, negsuc, Option, Some, None, refl, sym, ap, ◌∙◌, inl, inr, arith, get_or-set_same, get_or-set_other}
use Rattle.std.specs.List.{list_any}
use Rattle.std.specs.Ordering.{int_eq}
use Rattle.std.proofs.lemmas.Bool.{and_parts, cases_Bool, both_ways, ltb-true}
use Rattle.std.proofs.lemmas.Bool.Decides.{Decides-int_eq}
use Rattle.std.proofs.lemmas.List.{drop_more, get_or-replicate}
use Rattle.std.proofs.lemmas.List.Folds.{list_any_more, Any-from_list_any}
use Rattle.std.proofs.lemmas.Option.{slice_get-get_or, slice_get_past}
use Rattle.std.proofs.Math.Seq.{drop-length}
use Rattle.buckets.specs.declared.bucket.Bucket.{Bucket}
use Rattle.buckets.specs.declared.bucket.Item.{Item}
use Rattle.std.proofs.Props.{props}
use Rattle.std.proofs.Math.Logic.{∥∥₁_elim}
use Rattle.crush.specs.Parents.{AreParents}
use Rattle.crush.specs.Paths.{has_item}
use Rattle.crush.specs.Slots.{slot}
use Rattle.crush.specs.WellFormed.{is_known, IsForest}
use Rattle.crush.proofs.IdSearches.{int_eq-yes}
use Rattle.crush.proofs.ItemMarks.{slot-injective, items_known, found_within}
use Rattle.keylist.proofs.Counts.{find-place}
use Rattle.keylist.proofs.Each.{list_all-at}

-- whether an item has an id
abbrev pub is : ℤ → Item → Bool
is id i = int_eq i.id id

-- one more item entered
pub entered_more : (buckets : List Bucket) (items : List Item) (k place : ℕ) (places : List ℕ) (before : ℤ → ℕ) (d : Item) (item : ℤ) → length places ≡ 8192 → slot buckets item < 8192 → k < length items → (get_or items k d).id ≡ item → is_known buckets 4096 item ≡ true → ((id : ℤ) → is_known buckets 4096 id ≡ true → get_or places (slot buckets id) 0 ≡ cond (list_any (is id) (take k items)) place (before id)) → (id : ℤ) → is_known buckets 4096 id ≡ true → get_or (set places (slot buckets item) place) (slot buckets id) 0 ≡ cond (list_any (is id) (take (k + 1) items)) place (before id)
entered_more buckets items k place places before d item room within in_range here known so_far id known_id =
    let more = list_any_more (is id) items k d in_range in
    let at : slot buckets item < length places = omega arith in
    elim (cases_Bool (int_eq (get_or items k d).id id)) [
      | inl equal ↦
          let same : item ≡ id = sym here ∙ (Decides-int_eq _ id).0 equal in
          let now : get_or (set places (slot buckets item) place) (slot buckets id) 0 ≡ place = rw (← same, get_or-set_same) in
          let has : list_any (is id) (take (k + 1) items) ≡ true = rw (more, equal) (or_true (list_any (is id) (take k items))) in
          rw (now, has) refl
      | inr differs ↦
          let apart : slot buckets id ≢ slot buckets item = λ e. absurd (both_ways _ differs (int_eq-yes (get_or items k d).id id (here ∙ sym (slot-injective buckets id item known_id known e)))) in
          let now : get_or (set places (slot buckets item) place) (slot buckets id) 0 ≡ get_or places (slot buckets id) 0 = rw get_or-set_other in
          let has : list_any (is id) (take (k + 1) items) ≡ list_any (is id) (take k items) = rw (more, differs) (or_false (list_any (is id) (take k items))) in
          now ∙ so_far id known_id ∙ ap (λ b. cond b place (before id)) (sym has)
    ]
  where
    or_true : (b : Bool) → (b || true) ≡ true
    or_true true = refl
    or_true false = refl

    or_false : (b : Bool) → (b || false) ≡ b
    or_false true = refl
    or_false false = refl

-- one more bucket entered, before those that were
pub placed_more : (buckets : List Bucket) (k now before : ℕ) (item : ℤ) (b : Bucket) → k < length buckets → b ≡ get_or buckets k b → now ≡ cond (has_item item b) k before → slice_get buckets before ≡ find (has_item item) (drop (k + 1) buckets) → slice_get buckets now ≡ find (has_item item) (drop k buckets)
placed_more buckets k now before item b in_range here entered so_far =
    let p = has_item item in
    let opened : find p (drop k buckets) ≡ find p (b ∷ drop (k + 1) buckets) = ap (find p) (drop_more buckets k b in_range ∙ ap (λ c. c ∷ drop (k + 1) buckets) (sym here)) in
    let there : slice_get buckets k ≡ Some b = slice_get-get_or buckets k b in_range ∙ ap Some (sym here) in
    elim (cases_Bool (p b)) [
      | inl has ↦ ap (slice_get buckets) (entered ∙ ap (λ t. cond t k before) has) ∙ there ∙ sym (opened ∙ ap (λ t. cond t (Some b) (find p (drop (k + 1) buckets))) has)
      | inr lacks ↦ ap (slice_get buckets) (entered ∙ ap (λ t. cond t k before) lacks) ∙ so_far ∙ sym (opened ∙ ap (λ t. cond t (Some b) (find p (drop (k + 1) buckets))) lacks)
    ]

-- no bucket of a forest has an item that is not known
pub unknown-nowhere : (buckets : List Bucket) → IsForest buckets → (item : ℤ) → is_known buckets 4096 item ≡ false → find (has_item item) buckets ≡ None
unknown-nowhere buckets forest item unknown = by_case (find (has_item item) buckets) refl
  where
    by_case : (o : Option Bucket) → find (has_item item) buckets ≡ o → o ≡ None
    by_case None e = refl
    by_case (Some b) e =
        let place = find-place (has_item item) buckets b e in
        let below = (and_parts _ _ (and_parts _ _ (and_parts _ _ forest.lawful).0).0).1 in
        let at = Any-from_list_any (is item) b.items place.3 in
        let known = list_all-at (λ (i : Item). is_known buckets 4096 i.id) b.items at.0 at.1 at.2 (items_known buckets 4096 place.0 b place.1 (sym place.2) below) in
        let same : at.1.id ≡ item = (Decides-int_eq at.1.id item).0 at.4 in
        absurd (both_ways _ unknown (rw (at.3, same) at known))

-- the number of a known item
slot-within : (buckets : List Bucket) → length buckets ≤ 4096 → (id : ℤ) → is_known buckets 4096 id ≡ true → slot buckets id < 8192
slot-within buckets few (pos n) known = omega (arith, ltb-true n 4096 known)
slot-within buckets few (negsuc n) known = omega (arith, few, found_within (λ (b : Bucket). int_eq b.id (negsuc n)) buckets known)

-- before any bucket is entered no item has one
pub placed_none : (buckets : List Bucket) → length buckets ≤ 4096 → (id : ℤ) → is_known buckets 4096 id ≡ true → slice_get buckets (get_or (replicate 8192 4096) (slot buckets id) 0) ≡ find (has_item id) (drop (length buckets) buckets)
placed_none buckets few id known =
    ap (slice_get buckets) (get_or-replicate 8192 (slot buckets id) 4096 0 (slot-within buckets few id known))
    ∙ slice_get_past buckets 4096 few
    ∙ sym (ap (find (has_item id)) (drop-length buckets))

-- that they are the places has one proof at most
facts : (buckets : List Bucket) (places : List ℕ) → IsProp (AreParents buckets places)
unfolding AreParents
facts buckets places = hlevel props

-- the places, as a forest keeps them
pub are_parents : (buckets : List Bucket) (places : List ℕ) → ∥ AreParents buckets places ∥₁ → AreParents buckets places
are_parents buckets places kept = ∥∥₁_elim kept (facts buckets places) (λ linked. linked)
