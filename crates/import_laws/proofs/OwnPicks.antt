-- A bucket of the map picks what the cluster's own picks.
use Rattle.std.proofs.Common.{◌≡◌, ℕ, ◌<◌, cond, eqb, true, false, List, [], ◌∷◌, length, map, inl, inr, refl, sym, ap, ◌∙◌, subst, ℤ, arith}
use Rattle.std.specs.List.{filter, filter_map, enumerate_from}
use Rattle.std.proofs.lemmas.Bool.{cases_Bool, eqb-true}
use Rattle.buckets.specs.declared.bucket.Item.{Item}
use Rattle.buckets.specs.declared.bucket.Bucket.{Bucket}
use Rattle.buckets.specs.declared.bucket.BucketKind.TheVariants as kinds
use Rattle.buckets.specs.Items.{item_at}
use Rattle.buckets.specs.Pick.{place_by, pick_of}
use Rattle.mapparts.specs.declared.parts.ItemPart.{ItemPart}
use Rattle.maptypes.specs.Values.{item_of, bucket_of}
use Rattle.cephmap.specs.declared.bucket.Bucket.{Bucket as OwnBucket}
use Rattle.cephmap.specs.declared.bucket.Weights.{Weights}
use Rattle.cephmap.specs.declared.bucket.Weights.TheVariants.{Uniform, List as Listed, Tree, Straw, Straw2}
use Rattle.cephmap.specs.declared.crush.WeightSet.{WeightSet}
use Rattle.cephimport.specs.Buckets.{kind_by_weights, is_straw2, weight_in_force, held_item, weighing_of, least, items_held, imported_bucket}
use Rattle.import_laws.specs.Own.{own_item, own_items, own_bucket}
use Rattle.import_laws.specs.Picks.{PickAlike}
use Rattle.import_laws.proofs.Champions.{is_heavy, straw_item, heavy_picks, light_picks}

-- the items of a map's bucket, as the map has them
abbrev map_items : List WeightSet → OwnBucket → List (ℕ × ℤ) → List Item
map_items sets b places = map item_of (filter_map (λ p. held_item sets b p.0 p.1) places)

-- of a straw2 bucket they are those that weigh something
straw_items : (sets : List WeightSet) (b : OwnBucket) (places : List (ℕ × ℤ)) → is_straw2 b.weights ≡ true → map_items sets b places ≡ filter is_heavy (own_items sets b places)
unfolding held_item
straw_items sets b [] straw = refl
straw_items sets b (p ∷ places) straw =
    let own = own_item sets b p.0 p.1 in
    let rest = straw_items sets b places straw in
    elim (cases_Bool (eqb (weight_in_force sets b p.0) 0)) [
      | inl none ↦ rw none (rw straw rest)
      | inr some ↦ rw some (ap (λ items. own ∷ items) rest)
    ]

-- of another bucket they are all
other_items : (sets : List WeightSet) (b : OwnBucket) (places : List (ℕ × ℤ)) → is_straw2 b.weights ≡ false → map_items sets b places ≡ own_items sets b places
unfolding held_item
other_items sets b [] other = refl
other_items sets b (p ∷ places) other =
    let own = own_item sets b p.0 p.1 in
    let rest = other_items sets b places other in
    elim (cases_Bool (eqb (weight_in_force sets b p.0) 0)) [
      | inl none ↦ rw none (rw other (ap (λ items. own ∷ items) rest))
      | inr some ↦ rw some (ap (λ items. own ∷ items) rest)
    ]

-- some that are left, or the first of all at the least weight where none is
abbrev left_or_least : List ItemPart → List ℤ → List ItemPart
left_or_least left ids = cond (eqb (length left) 0) (least ids) left

-- no list without a length has an item
nothing : {X : Type 0} (xs : List X) → eqb (length xs) 0 ≡ true → xs ≡ []
nothing [] e = refl
nothing (x ∷ xs) e = absurd (omega (arith, eqb-true (length (x ∷ xs)) 0 e))

-- and one with a length has some
something : {X : Type 0} (xs : List X) → eqb (length xs) 0 ≡ false → 0 < length xs
something [] e = absurd (cc)
something (x ∷ xs) e = omega arith

-- a list maps to as many
map_some : (items : List ItemPart) → 0 < length items → 0 < length (map item_of items)
map_some [] some = absurd (omega arith)
map_some (i ∷ items) some = omega arith

-- the item of a straw2 bucket with these ids is the same
straw_alike : (sets : List WeightSet) (b : OwnBucket) (x r : ℕ) (ids : List ℤ) → is_straw2 b.weights ≡ true → (straw_item x r (own_items sets b (enumerate_from 0 ids))).id ≡ (straw_item x r (map item_of (left_or_least (weighing_of sets b ids) ids))).id
straw_alike sets b x r [] straw = refl
straw_alike sets b x r (id ∷ ids) straw =
    let places = enumerate_from 0 (id ∷ ids) in
    let own = own_items sets b places in
    let left = weighing_of sets b (id ∷ ids) in
    let heavy : map item_of left ≡ filter is_heavy own = straw_items sets b places straw in
    elim (cases_Bool (eqb (length left) 0)) [
      | inl none ↦
          let nothing_left : filter is_heavy own ≡ [] = sym heavy ∙ ap (map item_of) (nothing left none) in
          let one : Item = record { id = id; weight = 1 } in
          rw none (first_of_all sets b x r id ids nothing_left ∙ sym (ap (λ (i : Item). i.id) (light_picks x r one [] refl)))
      | inr some ↦
          let some_left : 0 < length (filter is_heavy own) = subst (λ (items : List Item). 0 < length items) heavy (map_some left (something left some)) in
          let same = heavy_picks x r own some_left (omega arith) in
          rw some (ap (λ (i : Item). i.id) (same ∙ ap (straw_item x r) (sym heavy)))
    ]
  where
    rest_none : (i : Item) (items : List Item) → filter is_heavy (i ∷ items) ≡ [] → filter is_heavy items ≡ []
    rest_none i items none = elim (cases_Bool (is_heavy i)) [
      | inl heavy ↦ (let kept : i ∷ filter is_heavy items ≡ [] = rw heavy at none in absurd (cc))
      | inr light ↦ rw light at none
    ]

    first_of_all : (sets : List WeightSet) (b : OwnBucket) (x r : ℕ) (id : ℤ) (ids : List ℤ) → filter is_heavy (own_items sets b (enumerate_from 0 (id ∷ ids))) ≡ [] → (straw_item x r (own_items sets b (enumerate_from 0 (id ∷ ids)))).id ≡ id
    first_of_all sets b x r id ids none =
        let own = own_item sets b 0 id in
        let rest = own_items sets b (enumerate_from 1 ids) in
        ap (λ (i : Item). i.id) (light_picks x r own rest (rest_none own rest none))

-- a bucket of another kind has the same items
other_alike : (sets : List WeightSet) (b : OwnBucket) (ids : List ℤ) → is_straw2 b.weights ≡ false → own_items sets b (enumerate_from 0 ids) ≡ map item_of (left_or_least (weighing_of sets b ids) ids)
unfolding held_item
other_alike sets b [] other = refl
other_alike sets b (id ∷ ids) other =
    let left = weighing_of sets b (id ∷ ids) in
    let same : map item_of left ≡ own_items sets b (enumerate_from 0 (id ∷ ids)) = other_items sets b (enumerate_from 0 (id ∷ ids)) other in
    elim (cases_Bool (eqb (length left) 0)) [
      | inl none ↦ (let gone : own_items sets b (enumerate_from 0 (id ∷ ids)) ≡ [] = sym same ∙ ap (map item_of) (nothing left none) in absurd (cc))
      | inr some ↦ rw some (sym same)
    ]

-- a bucket with straw2 weights is a straw2 bucket
pub straw_kind : (ws : Weights) → is_straw2 ws ≡ true → kind_by_weights ws ≡ kinds.Straw2
straw_kind (Uniform w) e = absurd (cc)
straw_kind (Listed ws) e = absurd (cc)
straw_kind (Tree ws) e = absurd (cc)
straw_kind (Straw ws) e = refl
straw_kind (Straw2 ws) e = refl

-- what a straw2 bucket picks
straw_pick : (b : Bucket) (x r : ℕ) → b.kind ≡ kinds.Straw2 → pick_of b x r ≡ (straw_item x r b.items).id
unfolding pick_of place_by
straw_pick b x r kind = ap (λ k. (item_at b.items (place_by k b x r)).id) kind

-- a bucket of the map that is not straw2 is the cluster's own
pub other_bucket : (sets : List WeightSet) (b : OwnBucket) → is_straw2 b.weights ≡ false → own_bucket sets b ≡ bucket_of (imported_bucket sets b)
unfolding imported_bucket items_held
other_bucket sets b other =
    let with_items : List Item → Bucket = λ items. record { id = b.id; level = b.level; kind = kind_by_weights b.weights; items = items } in
    ap with_items (other_alike sets b b.items other)

-- so a bucket of the map picks the same
pub pick_alike : PickAlike
unfolding imported_bucket items_held
pick_alike sets b x r = elim (cases_Bool (is_straw2 b.weights)) [
  | inl straw ↦
      let kind = straw_kind b.weights straw in
      straw_pick (own_bucket sets b) x r kind
      ∙ straw_alike sets b x r b.items straw
      ∙ sym (straw_pick (bucket_of (imported_bucket sets b)) x r kind)
  | inr other ↦ ap (λ (c : Bucket). pick_of c x r) (other_bucket sets b other)
]
