-- Chains of buckets in a forest, from an item upwards.
use Rattle.std.proofs.Common.{◌≡◌, ◌≢◌, ◌↔◌, ℕ, ◌+◌, ◌-◌, ◌<◌, ◌≤◌, Bool, true, false, ◌&&◌, nat_lt, eqb, cond, List, [], ◌∷◌, length, get_or, find, Option, Some, None, ℤ, pos, int_lt, IsTrue, ◌⊎◌, inl, inr, refl, sym, ap, ◌∙◌, arith}
use Rattle.std.specs.List.{list_all, list_any, count_by}
use Rattle.std.specs.Ordering.{int_eq}
use Rattle.std.proofs.lemmas.Bool.{and_parts, cases_Bool, false_from_ne_true, eqb-true, ltb-true}
use Rattle.std.proofs.lemmas.Bool.Decides.{Decides-int_eq}
use Rattle.std.proofs.lemmas.Int.{ints}
use Rattle.std.proofs.lemmas.List.Folds.{Any-from_list_any}
use Rattle.std.proofs.lemmas.List.Sums.{sum_by-le-sum_by}
use Rattle.std.proofs.lemmas.Option.{none-some, same_Some}
use Rattle.buckets.specs.declared.bucket.Bucket.{Bucket}
use Rattle.buckets.specs.declared.bucket.Item.{Item}
use Rattle.crush.specs.Forest.{bucket_at, level_of}
use Rattle.crush.specs.Paths.{has_item, is_above, IsAncestor}
use Rattle.crush.proofs.Above.{IsItemOf, IsPath, IsAbove, some-and, and-some, above-found, path-listed}
use Rattle.crush.specs.WellFormed.{buckets_with, times_in, is_known, IsForest}
use Rattle.buckets.specs.Buckets.{item_limits_ok, bucket_limits_ok}
use Rattle.crush.proofs.ForestLimits.{limits-each, limits-level}
use Rattle.keylist.proofs.Counts.{count_by-some, find-place, find-one}
use Rattle.crush.proofs.IdSearches.{int_eq-yes}
use Rattle.keylist.proofs.Each.{list_all-at}

-- a list with an element that passes counts one at least
any-counted : {X : Type 0} (p : X → Bool) (xs : List X) → cond (list_any p xs) 1 0 ≤ count_by p xs
any-counted p xs = elim (cases_Bool (list_any p xs)) [
  | inl some ↦
      let at = Any-from_list_any p xs some in
      rw some (count_by-some p xs at.0 at.1 at.2 (rw at.3 at.4))
  | inr none ↦ rw none (omega arith)
]

module _ (buckets : List Bucket) (forest : IsForest buckets) where
  -- the place of an item in its bucket
  item-place : (item : ℤ) (b : Bucket) → has_item item b ≡ true → (j : ℕ) × (i : Item) × (j < length b.items) × (get_or b.items j i ≡ i) × (i.id ≡ item)
  item-place item b has =
      let at = Any-from_list_any (λ (i : Item). int_eq i.id item) b.items has in
      (at.0, at.1, at.2, at.3, (Decides-int_eq at.1.id item).0 at.4)

  -- an item of a bucket of the forest stands in it once
  item-once : (item : ℤ) (k : ℕ) (b : Bucket) → k < length buckets → get_or buckets k b ≡ b → has_item item b ≡ true → times_in buckets item ≡ 1
  item-once item k b in_range here has =
      let place = item-place item b has in
      let once = (and_parts _ _ (and_parts _ _ forest.lawful).0).1 in
      let inner = rw here at (list_all-at (λ c. list_all (λ i. eqb (times_in buckets i.id) 1) c.items) buckets k b in_range once) in
      let one = eqb-true _ _ (list_all-at (λ i. eqb (times_in buckets i.id) 1) b.items place.0 place.1 place.2 inner) in
      rw (place.3, place.4) at one

  -- and its type is below that of the bucket
  item-below : (item : ℤ) (k : ℕ) (b : Bucket) → k < length buckets → get_or buckets k b ≡ b → has_item item b ≡ true → level_of buckets item < b.level
  item-below item k b in_range here has =
      let place = item-place item b has in
      let below = (and_parts _ _ (and_parts _ _ (and_parts _ _ forest.lawful).0).0).1 in
      let inner = rw here at (list_all-at (λ c. list_all (λ i. is_known buckets 4096 i.id && nat_lt (level_of buckets i.id) c.level) c.items) buckets k b in_range below) in
      let both = list_all-at (λ i. is_known buckets 4096 i.id && nat_lt (level_of buckets i.id) b.level) b.items place.0 place.1 place.2 inner in
      let held = get_or b.items place.0 place.1 in
      let lower = ltb-true (level_of buckets held.id) b.level (and_parts (is_known buckets 4096 held.id) (nat_lt (level_of buckets held.id) b.level) both).1 in
      rw (place.3, place.4) at lower

  -- a bucket of the forest is the one of its id
  own-bucket : (k : ℕ) (b : Bucket) → k < length buckets → get_or buckets k b ≡ b → bucket_at buckets b.id ≡ Some b
  own-bucket k b in_range here =
      let own = (and_parts _ _ (and_parts _ _ (and_parts _ _ forest.lawful).0).0).0 in
      let alone = eqb-true _ _ (rw here at (list_all-at (λ c. eqb (buckets_with buckets c.id) 1) buckets k b in_range own)) in
      find-one (λ c. int_eq c.id b.id) buckets k b in_range here (int_eq-yes b.id b.id refl) (omega (arith, alone))

  -- what the bucket that has an item is
  pub record IsParent (item : ℤ) (b : Bucket) : Type 0 where
    pub listed : bucket_at buckets b.id ≡ Some b
    pub held : IsItemOf buckets b.id item
    pub level : level_of buckets b.id ≡ b.level
    pub higher : level_of buckets item < level_of buckets b.id
    pub low : level_of buckets b.id ≤ 15

  pub parent-is : (item : ℤ) (b : Bucket) → find (has_item item) buckets ≡ Some b → IsParent item b
  parent-is item b found =
      let at = find-place (has_item item) buckets b found in
      let here = own-bucket at.0 b at.1 at.2 in
      let of_level : level_of buckets b.id ≡ b.level = rw here in
      let limits = rw at.2 at (list_all-at bucket_limits_ok buckets at.0 b at.1 (limits-each buckets 4096 forest.limits)) in
      let below = item-below item at.0 b at.1 at.2 at.3 in
      record {
        listed = here;
        held = and-some (λ c. IsTrue (has_item item c)) (bucket_at buckets b.id) b here at.3;
        level = of_level;
        higher = omega (arith, below, of_level);
        low = omega (arith, limits-level b limits, of_level);
      }

  -- the bucket of which an item is one is the only one that has it
  parent-of : (top item : ℤ) → IsItemOf buckets top item → (b : Bucket) × (find (has_item item) buckets ≡ Some b) × (b.id ≡ top)
  parent-of top item held =
      let there = some-and (λ c. IsTrue (has_item item c)) (bucket_at buckets top) held in
      let at = find-place (λ c. int_eq c.id top) buckets there.0 there.1 in
      let once = item-once item at.0 there.0 at.1 at.2 there.2 in
      let more = sum_by-le-sum_by (λ (c : Bucket). cond (has_item item c) 1 0) (λ c. count_by (λ i. int_eq i.id item) c.items) buckets (λ c. any-counted (λ (i : Item). int_eq i.id item) c.items) in
      (there.0, find-one (has_item item) buckets at.0 there.0 at.1 at.2 there.2 (omega (arith, once, more)), (Decides-int_eq there.0.id top).0 at.3)

  -- a chain ends with the step from the bucket that has the item
  path-up : (between : List ℤ) (top item : ℤ) (b : Bucket) → find (has_item item) buckets ≡ Some b → IsPath buckets top between item → (top ≡ b.id) ⊎ IsAbove buckets top b.id
  path-up [] top item b found held =
      let parent = parent-of top item held in
      let same : parent.0 ≡ b = same_Some parent.0 b (sym parent.1 ∙ found) in
      inl (sym parent.2 ∙ ap (λ (c : Bucket). c.id) same)
  path-up (next ∷ between) top item b found (held, path) = elim (path-up between next item b found path) [
    | inl same ↦ inr (record { between = []; path = rw same at held })
    | inr above ↦ inr (record { between = next ∷ above.between; path = (held, above.path) })
  ]

  -- no chain leads to an item that no bucket has
  path-none : (between : List ℤ) (top item : ℤ) → find (has_item item) buckets ≡ None → IsPath buckets top between item → ⊥
  path-none [] top item absent held = let parent = parent-of top item held in none-some parent.0 (sym absent ∙ parent.1)
  path-none (next ∷ between) top item absent (held, path) = path-none between next item absent path

  -- a chain with one more step at its end
  path-down : (between : List ℤ) (top item : ℤ) (b : Bucket) → IsItemOf buckets b.id item → IsPath buckets top between b.id → IsAbove buckets top item
  path-down [] top item b held path = record { between = b.id ∷ []; path = (path, held) }
  path-down (next ∷ between) top item b held (first, path) =
      let rest = path-down between next item b held path in
      record { between = next ∷ rest.between; path = (first, rest.path) }

  -- the top of a chain is of a higher type than its end
  path-higher : (between : List ℤ) (top item : ℤ) → IsPath buckets top between item → level_of buckets item < level_of buckets top
  path-higher [] top item held =
      let parent = parent-of top item held in
      let is = parent-is item parent.0 parent.1 in
      omega (arith, is.higher, ap (level_of buckets) parent.2)
  path-higher (next ∷ between) top item (held, path) =
      let parent = parent-of top next held in
      let is = parent-is next parent.0 parent.1 in
      omega (arith, is.higher, ap (level_of buckets) parent.2, path-higher between next item path)

  -- types fall along a path, so that it has no more buckets than there are types
  path-short : (between : List ℤ) (top item : ℤ) → IsPath buckets top between item → (length between + level_of buckets item < level_of buckets top) × (level_of buckets top ≤ 15)
  path-short [] top item held =
      let parent = parent-of top item held in
      let is = parent-is item parent.0 parent.1 in
      let level = ap (level_of buckets) parent.2 in
      (omega (arith, is.higher, level), omega (arith, is.low, level))
  path-short (next ∷ between) top item (held, path) =
      let parent = parent-of top next held in
      let is = parent-is next parent.0 parent.1 in
      let level = ap (level_of buckets) parent.2 in
      let rest = path-short between next item path in
      (omega (arith, is.higher, level, rest.0), omega (arith, is.low, level))

  -- the test of what stands above an item decides whether there is a path
  pub above-tested : (top item : ℤ) → (is_above buckets top item ≡ true) ↔ IsAbove buckets top item
  above-tested top item = (
    λ e. above-found buckets top item e,
    λ above. let short = path-short above.between top item above.path in path-listed buckets above.between top item (omega (arith, short.0, short.1)) above.path,
  )

  -- an item of a bucket is no device past the last
  item-near : (n : ℕ) (top : ℤ) → IsItemOf buckets top (pos n) → n < 4096
  item-near n top held =
      let there = some-and (λ c. IsTrue (has_item (pos n) c)) (bucket_at buckets top) held in
      let b = there.0 in
      let at = find-place (λ c. int_eq c.id top) buckets b there.1 in
      let place = item-place (pos n) b there.2 in
      let limits : bucket_limits_ok b ≡ true = rw at.2 at (list_all-at bucket_limits_ok buckets at.0 b at.1 (limits-each buckets 4096 forest.limits)) in
      let within = rw place.3 at (list_all-at item_limits_ok b.items place.0 place.1 place.2 (and_parts _ _ limits).1) in
      let near : int_lt place.1.id (pos 4096) ≡ true = (and_parts _ _ (and_parts _ _ within).0).1 in
      omega (arith, ints, rw place.4 at near)

  path-near : (between : List ℤ) (top : ℤ) (n : ℕ) → IsPath buckets top between (pos n) → n < 4096
  path-near [] top n held = item-near n top held
  path-near (next ∷ between) top n (held, path) = path-near between next n path

  -- nothing stands above a device past the last
  pub above-far : (top : ℤ) (n : ℕ) → 4096 ≤ n → is_above buckets top (pos n) ≡ false
  above-far top n far =
      let past : is_above buckets top (pos n) ≡ true → ⊥ = λ yes.
      let above = above-found buckets top (pos n) yes in
      let near = path-near above.between top n above.path in
      absurd (omega (arith, far, near))
      in false_from_ne_true (is_above buckets top (pos n)) past

  -- above an item stand the bucket that has it and what stands above that
  pub above-parent : (top item : ℤ) (b : Bucket) → find (has_item item) buckets ≡ Some b → IsAbove buckets top item → (top ≡ b.id) ⊎ IsAbove buckets top b.id
  above-parent top item b found above = path-up above.between top item b found above.path

  pub above-none : (top item : ℤ) → find (has_item item) buckets ≡ None → IsAbove buckets top item → ⊥
  above-none top item absent above = path-none above.between top item absent above.path

  pub parent-above : (item : ℤ) (b : Bucket) → find (has_item item) buckets ≡ Some b → IsAbove buckets b.id item
  parent-above item b found = record { between = []; path = (parent-is item b found).held }

  pub above-item : (top item : ℤ) (b : Bucket) → find (has_item item) buckets ≡ Some b → IsAbove buckets top b.id → IsAbove buckets top item
  above-item top item b found above = path-down above.between top item b (parent-is item b found).held above.path

  pub above-higher : (top item : ℤ) → IsAbove buckets top item → level_of buckets item < level_of buckets top
  above-higher top item above = path-higher above.between top item above.path

  -- one step up towards a bucket
  pub climb-above : (top item below : ℤ) (b : Bucket) → find (has_item below) buckets ≡ Some b → b.id ≢ top → (IsAbove buckets top below ↔ IsAbove buckets top item) → IsAbove buckets top b.id ↔ IsAbove buckets top item
  climb-above top item below b found differs so_far = (
    λ up. so_far.0 (above-item top below b found up),
    λ above. elim (above-parent top below b found (so_far.1 above)) [
      | inl same ↦ absurd (differs (sym same))
      | inr up ↦ up
    ],
  )

  pub climb-found : (top item below : ℤ) (b : Bucket) → find (has_item below) buckets ≡ Some b → b.id ≡ top → (IsAbove buckets top below ↔ IsAbove buckets top item) → IsAbove buckets top item
  climb-found top item below b found same so_far = so_far.0 (rw same at (parent-above below b found))

  pub climb-none : (top item below : ℤ) → find (has_item below) buckets ≡ None → (IsAbove buckets top below ↔ IsAbove buckets top item) → IsAbove buckets top item → ⊥
  climb-none top item below absent so_far above = above-none top below absent (so_far.1 above)

  -- the types rise
  pub climb-smaller : (below : ℤ) (b : Bucket) → find (has_item below) buckets ≡ Some b → 16 - level_of buckets b.id < 16 - level_of buckets below
  climb-smaller below b found = let is = parent-is below b found in omega (arith, is.higher, is.low)

  -- one step up towards a type
  pub climb-level : (item below : ℤ) (level : ℕ) (b : Bucket) → find (has_item below) buckets ≡ Some b → b.level ≢ level → ((a : ℤ) → IsAncestor buckets below level a ↔ IsAncestor buckets item level a) → (a : ℤ) → IsAncestor buckets b.id level a ↔ IsAncestor buckets item level a
  climb-level item below level b found differs so_far a = (
    λ up. (so_far a).0 (record { above = (above-tested a below).1 (above-item a below b found ((above-tested a b.id).0 up.above)); of_level = up.of_level }),
    λ ancestor. let below_it = (so_far a).1 ancestor in
        elim (above-parent a below b found ((above-tested a below).0 below_it.above)) [
          | inl same ↦ absurd (differs (omega (arith, (parent-is below b found).level, ap (level_of buckets) same, below_it.of_level)))
          | inr up ↦ record { above = (above-tested a b.id).1 up; of_level = below_it.of_level }
        ],
  )

  pub climb-there : (item below : ℤ) (level : ℕ) (b : Bucket) → find (has_item below) buckets ≡ Some b → b.level ≡ level → ((a : ℤ) → IsAncestor buckets below level a ↔ IsAncestor buckets item level a) → (a : ℤ) → (◌≡◌ {A = Option ℤ} (Some b.id) (Some a)) ↔ IsAncestor buckets item level a
  climb-there item below level b found same so_far a = (
    λ e. let here : IsAncestor buckets below level b.id = record { above = (above-tested b.id below).1 (parent-above below b found); of_level = (parent-is below b found).level ∙ same } in
        (so_far a).0 (rw (same_Some b.id a e) at here),
    λ ancestor. let below_it = (so_far a).1 ancestor in
        elim (above-parent a below b found ((above-tested a below).0 below_it.above)) [
          | inl here ↦ ap Some (sym here)
          | inr up ↦ absurd (omega (arith, above-higher a b.id up, (parent-is below b found).level, same, below_it.of_level))
        ],
  )

  pub climb-nowhere : (item below : ℤ) (level : ℕ) → find (has_item below) buckets ≡ None → ((a : ℤ) → IsAncestor buckets below level a ↔ IsAncestor buckets item level a) → (a : ℤ) → (◌≡◌ {A = Option ℤ} None (Some a)) ↔ IsAncestor buckets item level a
  climb-nowhere item below level absent so_far a = (
    λ e. absurd (none-some a e),
    λ ancestor. absurd (above-none a below absent ((above-tested a below).0 ((so_far a).1 ancestor).above)),
  )
