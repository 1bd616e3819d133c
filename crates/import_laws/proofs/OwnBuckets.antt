-- The buckets of a map beside those of the cluster's own: with each id that rules lead to, two that pick alike.
use Rattle.std.proofs.Common.{◌≡◌, ℕ, ℤ, pos, negsuc, true, false, List, [], ◌∷◌, length, map, get_or, Option, Some, None, inl, inr, sym, ap, refl, ◌∙◌, arith, Bool, cond}
use Rattle.std.specs.Prelude.{is_some, int_lt}
use Rattle.std.specs.List.{filter, cons_option, list_all, All}
use Rattle.std.specs.Option.{option_map}
use Rattle.std.specs.Ordering.{int_eq}
use Rattle.std.proofs.lemmas.Bool.{cases_Bool, and_parts, both_ways}
use Rattle.std.proofs.lemmas.Int.{ints}
use Rattle.std.proofs.lemmas.List.Elements.{All-nil, All-cons}
use Rattle.buckets.specs.declared.bucket.Bucket.{Bucket}
use Rattle.buckets.specs.Kinds.{stride_by}
use Rattle.crush.specs.declared.step.Step.{Step as MadeStep}
use Rattle.crush.specs.declared.step.Step.TheVariants.{SetChooseTries, SetChooseleafTries, SetChooseleafVaryR, SetChooseleafStable, Take, Choose as Chooses, Emit}
use Rattle.crush.specs.Forest.{bucket_at}
use Rattle.crush.specs.Grammar.{takes_known}
use Rattle.crush.specs.WellFormed.{is_known, IsForest}
use Rattle.crush.specs.World.{world_of}
use Rattle.crush.proofs.DescentsWithin.{AreAlike}
use Rattle.crush.proofs.PickableBuckets.{bucket_at-pickable, device-has_none}
use Rattle.crush.proofs.ReadsReached.{known_device, item_known}
use Rattle.crush.proofs.RunsWithin.{TakesIn}
use Rattle.mapparts.specs.declared.parts.BucketPart.{BucketPart}
use Rattle.maptypes.specs.Values.{bucket_of}
use Rattle.cephmap.specs.declared.bucket.Bucket.{Bucket as OwnBucket}
use Rattle.cephmap.specs.declared.bucket.Slot.{Slot}
use Rattle.cephmap.specs.declared.crush.WeightSet.{WeightSet}
use Rattle.cephimport.specs.Buckets.{is_straw2, imported_bucket, slot_parts}
use Rattle.cephimport.specs.Reach.{is_one_of}
use Rattle.import_laws.specs.Own.{own_bucket, own_buckets_in}
use Rattle.import_laws.proofs.OwnPicks.{straw_kind, other_bucket, pick_alike}
use Rattle.import_laws.proofs.PairedWorlds.{ArePair, ArePaired}

-- ---- one bucket

-- a straw2 bucket goes by the same replica numbers, whatever it holds
stride_same : (sets : List WeightSet) (b : OwnBucket) (numrep : ℕ) → stride_by (own_bucket sets b).kind numrep (length (own_bucket sets b).items) ≡ stride_by (bucket_of (imported_bucket sets b)).kind numrep (length (bucket_of (imported_bucket sets b)).items)
unfolding imported_bucket
stride_same sets b numrep = elim (cases_Bool (is_straw2 b.weights)) [
  | inl straw ↦
      let kind = straw_kind b.weights straw in
      ap (λ k. stride_by k numrep (length (own_bucket sets b).items)) kind
      ∙ sym (ap (λ k. stride_by k numrep (length (bucket_of (imported_bucket sets b)).items)) kind)
  | inr other ↦ ap (λ (c : Bucket). stride_by c.kind numrep (length c.items)) (other_bucket sets b other)
]

-- a bucket of the cluster and the map's are a pair
pair_of : (sets : List WeightSet) (b : OwnBucket) → ArePair (own_bucket sets b) (bucket_of (imported_bucket sets b))
unfolding imported_bucket
pair_of sets b = record {
  level = refl;
  stride = stride_same sets b;
  picks = pick_alike sets b;
}

-- ---- those of all slots

-- the buckets of a map, of which those with these ids stay
abbrev pub kept_of : List ℤ → List BucketPart → List Bucket
kept_of ids buckets = map bucket_of (filter (λ b. is_one_of ids b.id) buckets)

-- two ids that are the same
same_id : (a b : ℤ) → int_eq a b ≡ true → a ≡ b
same_id a b e = grind (arith, ints, e)

-- the bucket of one slot more
one_more : (ids : List ℤ) (sets : List WeightSet) (id : ℤ) (o : Option OwnBucket) (own : List Bucket) (buckets : List BucketPart) → is_one_of ids id ≡ true → ArePaired (bucket_at own id) (bucket_at (kept_of ids buckets) id) → ArePaired (bucket_at (cons_option (option_map (own_bucket sets) o) own) id) (bucket_at (kept_of ids (cons_option (option_map (imported_bucket sets) o) buckets)) id)
unfolding imported_bucket
one_more ids sets id None own buckets kept h = h
one_more ids sets id (Some b) own buckets kept h = elim (cases_Bool (int_eq b.id id)) [
  | inl here ↦
      let stays : is_one_of ids b.id ≡ true = (rw (same_id b.id id here) kept) in
      rw stays (rw here (pair_of sets b))
  | inr not_so ↦ elim (cases_Bool (is_one_of ids b.id)) [
    | inl stays ↦ rw stays (rw not_so h)
    | inr goes ↦ rw goes (rw not_so h)
  ]
]

-- an id that stays leads to a pair, or to none
pub paired_at : (ids : List ℤ) (sets : List WeightSet) (id : ℤ) (slots : List (Slot OwnBucket)) → is_one_of ids id ≡ true → ArePaired (bucket_at (own_buckets_in sets slots) id) (bucket_at (kept_of ids (slot_parts sets slots)) id)
paired_at ids sets id [] kept = tt
paired_at ids sets id (s ∷ slots) kept = one_more ids sets id s.holds (own_buckets_in sets slots) (slot_parts sets slots) kept (paired_at ids sets id slots kept)

-- an id that leads to a bucket of the map stays
pub stays_found : (ids : List ℤ) (id : ℤ) (buckets : List BucketPart) → is_some (bucket_at (kept_of ids buckets) id) ≡ true → is_one_of ids id ≡ true
stays_found ids id [] e = absurd (cc)
stays_found ids id (b ∷ buckets) e = elim (cases_Bool (is_one_of ids b.id)) [
  | inr goes ↦ stays_found ids id buckets (rw goes at e)
  | inl stays ↦ elim (cases_Bool (int_eq b.id id)) [
    | inl here ↦ (rw (sym (same_id b.id id here)) stays)
    | inr not_so ↦ (let f : is_some (bucket_at (bucket_of b ∷ kept_of ids buckets) id) ≡ true = rw stays at e in stays_found ids id buckets (rw not_so at f))
  ]
]

-- ---- what is known in a forest

-- a device, or a bucket of the forest
abbrev pub IsKnown : List Bucket → ℤ → Type 0
IsKnown buckets id = is_known buckets 4096 id ≡ true

-- a world over a forest stays within what is known
pub stays_known : (buckets : List Bucket) (weights : List ℕ) (x : ℕ) → IsForest buckets → AreAlike (IsKnown buckets) (world_of buckets weights x) weights
stays_known buckets weights x forest = record {
  below = λ id b known e. record {
    pickable = bucket_at-pickable buckets forest id b e;
    items = λ k d within. (item_known buckets id b k d forest e within).0;
    devices = λ k d within none. known_device buckets (get_or b.items k d).id forest (item_known buckets id b k d forest e within).0 none;
  };
  alike = λ d known device. refl;
}

-- what a step takes of a forest is known
take_known : (buckets : List Bucket) (id : ℤ) → IsForest buckets → is_some (bucket_at buckets id) ≡ true → IsKnown buckets id
take_known buckets (negsuc n) forest some = some
take_known buckets (pos n) forest some =
    let none : bucket_at buckets (pos n) ≡ None = device-has_none buckets forest (pos n) (pos n) refl (grind (arith, ints)) in
    let not_some : is_some (bucket_at buckets (pos n)) ≡ false = rw none refl in
    absurd (both_ways (is_some (bucket_at buckets (pos n))) not_some some)

-- so is what each step takes
step_known : (buckets : List Bucket) (s : MadeStep) → IsForest buckets → takes_known buckets s ≡ true → TakesIn (IsKnown buckets) s
step_known buckets (Take id) forest known = take_known buckets id forest known
step_known buckets (SetChooseTries t) forest known = tt
step_known buckets (SetChooseleafTries t) forest known = tt
step_known buckets (SetChooseleafVaryR t) forest known = tt
step_known buckets (SetChooseleafStable t) forest known = tt
step_known buckets (Chooses c) forest known = tt
step_known buckets Emit forest known = tt

-- and what all steps take
pub steps_known : (buckets : List Bucket) (steps : List MadeStep) → IsForest buckets → list_all (takes_known buckets) steps ≡ true → All (TakesIn (IsKnown buckets)) steps
steps_known buckets [] forest known = All-nil (TakesIn (IsKnown buckets))
steps_known buckets (s ∷ steps) forest known =
    let both = and_parts (takes_known buckets s) (list_all (takes_known buckets) steps) known in
    All-cons (TakesIn (IsKnown buckets)) s steps (step_known buckets s forest both.0) (steps_known buckets steps forest both.1)

-- ---- ids below 0

-- an id is a bucket's
abbrev is_below : Bucket → Bool
is_below b = int_lt b.id (pos 0)

-- among buckets of ids below 0 a device has none
pub none_of_device : (buckets : List Bucket) (n : ℕ) → bucket_at (filter is_below buckets) (pos n) ≡ None
none_of_device [] n = refl
none_of_device (b ∷ buckets) n = elim (cases_Bool (is_below b)) [
  | inl below ↦
      let other : int_eq b.id (pos n) ≡ false = grind (arith, ints, below) in
      rw below (rw other (none_of_device buckets n))
  | inr above ↦ rw above (none_of_device buckets n)
]

-- and an id below 0 leads to what it leads to among all
pub all_of_bucket : (buckets : List Bucket) (n : ℕ) → bucket_at (filter is_below buckets) (negsuc n) ≡ bucket_at buckets (negsuc n)
all_of_bucket [] n = refl
all_of_bucket (b ∷ buckets) n = elim (cases_Bool (is_below b)) [
  | inl below ↦ rw below (ap (cond (int_eq b.id (negsuc n)) (Some b)) (all_of_bucket buckets n))
  | inr above ↦
      let other : int_eq b.id (negsuc n) ≡ false = grind (arith, ints, above) in
      rw above (rw other (all_of_bucket buckets n))
]
