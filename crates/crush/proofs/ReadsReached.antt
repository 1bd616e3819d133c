-- A rule places by the reweights of the devices that it reaches, and by no other.
use Rattle.std.proofs.Common.{◌≡◌, ℕ, ◌<◌, ℤ, pos, negsuc, true, ◌&&◌, ◌≤◌, ◌%◌, List, [], ◌∷◌, ◌++◌, length, get_or, Option, Some, None, ◌⊎◌, inl, inr, sym, ap, refl, ◌∙◌, subst, arith, IsTrue}
use Rattle.std.specs.Prelude.{is_some, int_lt, nat_lt, nat_le, slice_index}
use Rattle.std.specs.List.{All, Any, list_all}
use Rattle.std.specs.Option.{option_map_or}
use Rattle.std.specs.Ordering.{int_eq}
use Rattle.std.proofs.lemmas.Bool.Decides.{nat_tests}
use Rattle.std.proofs.lemmas.Bool.{and_parts, ltb-true}
use Rattle.std.proofs.lemmas.Int.{ints}
use Rattle.std.proofs.lemmas.List.{get_or_default}
use Rattle.std.proofs.lemmas.List.Folds.{list_any_at, list_any-from_Any}
use Rattle.rjenkins.specs.Jenkins.{hash2_of}
use Rattle.buckets.specs.declared.bucket.Bucket.{Bucket}
use Rattle.buckets.specs.declared.bucket.Item.{Item}
use Rattle.crush.specs.declared.step.RuleKind.{RuleKind}
use Rattle.crush.specs.declared.step.Step.{Step}
use Rattle.crush.specs.declared.step.Step.TheVariants.{SetChooseTries, SetChooseleafTries, SetChooseleafVaryR, SetChooseleafStable, Take, Choose as Chooses, Emit}
use Rattle.crush.specs.Forest.{bucket_at, level_of}
use Rattle.crush.specs.Grammar.{step_limits_ok, IsLawfulRule}
use Rattle.crush.specs.Paths.{has_item, takes_above, reaches}
use Rattle.crush.proofs.Above.{IsItemOf, IsPath, IsAbove, and-some}
use Rattle.crush.specs.Run.{run_of}
use Rattle.crush.specs.WellFormed.{is_known, IsForest}
use Rattle.buckets.specs.Limits.{is_within}
use Rattle.buckets.specs.Buckets.{bucket_limits_ok}
use Rattle.crush.specs.World.{world_of, is_out}
use Rattle.crush.proofs.ForestLimits.{limits-each}
use Rattle.crush.proofs.Climbs.{above-tested}
use Rattle.keylist.proofs.Counts.{find-place}
use Rattle.crush.proofs.PickableBuckets.{bucket_at-pickable}
use Rattle.crush.proofs.IdSearches.{int_eq-yes}
use Rattle.keylist.proofs.Each.{list_all-at}
use Rattle.crush.proofs.RunsWithin.{TakesIn, run_same}
use Rattle.crush.proofs.DescentsWithin.{other, IsDevice, HasIn, AreAlike}

-- a chain with one more bucket at its end
path_more : (buckets : List Bucket) (between : List ℤ) (top mid item : ℤ) → IsPath buckets top between mid → IsItemOf buckets mid item → IsPath buckets top (between ++ mid ∷ []) item
path_more buckets [] top mid item path held = (path, held)
path_more buckets (next ∷ between) top mid item path held = (path.0, path_more buckets between next mid item path.1 held)

-- a step takes a bucket, or one above it
pub TakesTo : List Bucket → ℤ → Step → Type 0
TakesTo buckets item (Take top) = (top ≡ item) ⊎ IsAbove buckets top item
TakesTo buckets item (SetChooseTries n) = ⊥
TakesTo buckets item (SetChooseleafTries n) = ⊥
TakesTo buckets item (SetChooseleafVaryR n) = ⊥
TakesTo buckets item (SetChooseleafStable n) = ⊥
TakesTo buckets item (Chooses c) = ⊥
TakesTo buckets item Emit = ⊥

-- what the steps take, and what is under it
abbrev pub IsHeld : List Bucket → List Step → ℤ → Type 0
IsHeld buckets steps item = Any (TakesTo buckets item) steps

-- what takes a bucket takes its items too
takes_below : (buckets : List Bucket) (id item : ℤ) (s : Step) → IsItemOf buckets id item → TakesTo buckets id s → TakesTo buckets item s
unfolding TakesTo
takes_below buckets id item (Take top) held (inl same) = inr (record { between = []; path = subst (λ t. IsItemOf buckets t item) (sym same) held })
takes_below buckets id item (Take top) held (inr above) = inr (record { between = above.between ++ id ∷ []; path = path_more buckets above.between top id item above.path held })
takes_below buckets id item (SetChooseTries n) held h = h
takes_below buckets id item (SetChooseleafTries n) held h = h
takes_below buckets id item (SetChooseleafVaryR n) held h = h
takes_below buckets id item (SetChooseleafStable n) held h = h
takes_below buckets id item (Chooses c) held h = h
takes_below buckets id item Emit held h = h

-- a step takes what it takes
takes_itself : (buckets : List Bucket) (steps : List Step) (k : ℕ) (s : Step) → k < length steps → get_or steps k s ≡ s → TakesIn (IsHeld buckets steps) s
unfolding TakesTo
takes_itself buckets steps k (SetChooseTries n) within e = tt
takes_itself buckets steps k (SetChooseleafTries n) within e = tt
takes_itself buckets steps k (SetChooseleafVaryR n) within e = tt
takes_itself buckets steps k (SetChooseleafStable n) within e = tt
takes_itself buckets steps k (Take id) within e = (k, Take id, within, e, inl refl)
takes_itself buckets steps k (Chooses c) within e = tt
takes_itself buckets steps k Emit within e = tt

-- so all steps take what they hold
pub takes_held : (buckets : List Bucket) (steps : List Step) → All (TakesIn (IsHeld buckets steps)) steps
takes_held buckets steps = λ k d within. takes_itself buckets steps k (get_or steps k d) within (get_or_default steps k (get_or steps k d) d within)

-- what is there
is_there : (o : Option Bucket) → is_some o ≡ true → (b : Bucket) × (o ≡ Some b)
is_there None h = absurd (cc)
is_there (Some b) h = (b, refl)

-- a bucket of a forest is of type 1 at least
pub typed : (buckets : List Bucket) (id : ℤ) (b : Bucket) → IsForest buckets → bucket_at buckets id ≡ Some b → 1 ≤ b.level
typed buckets id b forest e =
    let place = find-place (λ c. int_eq c.id id) buckets b e in
    let limits : bucket_limits_ok b ≡ true = rw place.2 at (list_all-at bucket_limits_ok buckets place.0 b place.1 (limits-each buckets 4096 forest.limits)) in
    let level : is_within 1 15 b.level ≡ true = (and_parts _ _ (and_parts _ _ (and_parts _ _ limits).0).0).1 in
    grind (arith, nat_tests, level)

-- a known item of type 0 is a device
pub known_device : (buckets : List Bucket) (id : ℤ) → IsForest buckets → is_known buckets 4096 id ≡ true → level_of buckets id ≡ 0 → IsDevice id
known_device buckets (pos n) forest known none = record { osd = n; is = refl }
known_device buckets (negsuc n) forest known none =
    let there = is_there (bucket_at buckets (negsuc n)) known in
    let level : level_of buckets (negsuc n) ≡ there.0.level = ap (λ o. option_map_or (λ b. b.level) o 0) there.1 in
    let some = typed buckets (negsuc n) there.0 forest there.1 in
    absurd (omega arith)

-- an item of a bucket of a forest is known, and of a type below
pub item_known : (buckets : List Bucket) (id : ℤ) (b : Bucket) (k : ℕ) (d : Item) → IsForest buckets → bucket_at buckets id ≡ Some b → k < length b.items → (is_known buckets 4096 (get_or b.items k d).id ≡ true) × (level_of buckets (get_or b.items k d).id < b.level)
item_known buckets id b k d forest e within =
    let place = find-place (λ c. int_eq c.id id) buckets b e in
    let below = (and_parts _ _ (and_parts _ _ (and_parts _ _ forest.lawful).0).0).1 in
    let inner = rw place.2 at (list_all-at (λ c. list_all (λ i. is_known buckets 4096 i.id && nat_lt (level_of buckets i.id) c.level) c.items) buckets place.0 b place.1 below) in
    let both = list_all-at (λ i. is_known buckets 4096 i.id && nat_lt (level_of buckets i.id) b.level) b.items k d within inner in
    let parts = and_parts (is_known buckets 4096 (get_or b.items k d).id) (nat_lt (level_of buckets (get_or b.items k d).id) b.level) both in
    (parts.0, ltb-true _ _ parts.1)

-- with a bucket all its items are held
held_items : (buckets : List Bucket) (steps : List Step) (id : ℤ) (b : Bucket) → IsForest buckets → IsHeld buckets steps id → bucket_at buckets id ≡ Some b → HasIn (IsHeld buckets steps) buckets b
held_items buckets steps id b forest held e =
    let place = find-place (λ c. int_eq c.id id) buckets b e in
    record {
      pickable = bucket_at-pickable buckets forest id b e;
      items = λ k d within. (let item = (get_or b.items k d).id in
          let has : has_item item b ≡ true = list_any_at (λ (i : Item). int_eq i.id item) b.items k d within (int_eq-yes item item refl) in
          let of : IsItemOf buckets id item = and-some (λ c. has_item item c ≡ true) (bucket_at buckets id) b e has in
          (held.0, held.1, held.2, held.3, takes_below buckets id item held.1 of held.4));
      devices = λ k d within. λ none. known_device buckets (get_or b.items k d).id forest (item_known buckets id b k d forest e within).0 none;
    }

-- a device that the steps hold is one that they reach
takes_device : (buckets : List Bucket) (n : ℕ) (s : Step) → IsForest buckets → step_limits_ok s ≡ true → TakesTo buckets (pos n) s → takes_above buckets (pos n) s ≡ true
unfolding TakesTo
takes_device buckets n (Take top) forest limits (inl same) =
    let low : int_lt top (pos 0) ≡ true = (and_parts _ _ limits).1 in
    let device : int_lt (pos n) (pos 0) ≡ true = ap (λ t. int_lt t (pos 0)) (sym same) ∙ low in
    absurd (omega (arith, ints, device))
takes_device buckets n (Take top) forest limits (inr above) = (above-tested buckets forest top (pos n)).1 above
takes_device buckets n (SetChooseTries t) forest limits h = absurd h
takes_device buckets n (SetChooseleafTries t) forest limits h = absurd h
takes_device buckets n (SetChooseleafVaryR t) forest limits h = absurd h
takes_device buckets n (SetChooseleafStable t) forest limits h = absurd h
takes_device buckets n (Chooses c) forest limits h = absurd h
takes_device buckets n Emit forest limits h = absurd h

-- the same of the steps of a rule
pub held_reached : (buckets : List Bucket) (kind : RuleKind) (steps : List Step) (n : ℕ) → IsForest buckets → IsLawfulRule kind steps → IsHeld buckets steps (pos n) → reaches buckets steps (pos n) ≡ true
held_reached buckets kind steps n forest lawful held =
    let limits : step_limits_ok held.1 ≡ true = rw held.3 at (list_all-at step_limits_ok steps held.0 held.1 held.2 (and_parts _ _ lawful.limits).1) in
    list_any-from_Any (takes_above buckets (pos n)) steps (held.0, held.1, held.2, held.3, takes_device buckets n held.1 forest limits held.4)

-- a device is out under both of two lists that have the same reweight for it, or under none
out_alike : (buckets : List Bucket) (weights others : List ℕ) (x n : ℕ) → slice_index weights n ≡ slice_index others n → is_out (world_of buckets weights x) (pos n) ≡ is_out (world_of buckets others x) (pos n)
unfolding is_out
out_alike buckets weights others x n same = ap (λ weight. nat_lt weight 65536 && nat_le weight (hash2_of x n % 65536)) same

-- two lists that agree on what is reached agree on what is held
pub held_alike : (buckets : List Bucket) (kind : RuleKind) (steps : List Step) (weights others : List ℕ) (x : ℕ) → IsForest buckets → IsLawfulRule kind steps → ((osd : ℕ) → IsTrue (reaches buckets steps (pos osd)) → slice_index weights osd ≡ slice_index others osd) → AreAlike (IsHeld buckets steps) (world_of buckets weights x) others
held_alike buckets kind steps weights others x forest lawful agree = record {
  below = λ id b held e. held_items buckets steps id b forest held e;
  alike = λ d held device.
      let w = world_of buckets weights x in
      let reached = held_reached buckets kind steps device.osd forest lawful (subst (IsHeld buckets steps) device.is held) in
      let same = out_alike buckets weights others x device.osd (agree device.osd reached) in
      ap (is_out w) device.is ∙ same ∙ sym (ap (is_out (other w others)) device.is);
}

-- so a rule reads no other reweight
pub run_reads_reached : (buckets : List Bucket) (kind : RuleKind) (steps : List Step) (weights others : List ℕ) (x size : ℕ) → IsForest buckets → IsLawfulRule kind steps
    → ((osd : ℕ) → IsTrue (reaches buckets steps (pos osd)) → slice_index weights osd ≡ slice_index others osd) → run_of (world_of buckets weights x) steps size ≡ run_of (world_of buckets others x) steps size
run_reads_reached buckets kind steps weights others x size forest lawful agree =
    run_same (IsHeld buckets steps) (world_of buckets weights x) others steps size (held_alike buckets kind steps weights others x forest lawful agree) (takes_held buckets steps)
