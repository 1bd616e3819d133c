-- what a search for a leaf finds, and what a test that finds nothing says
use Rattle.std.proofs.Common.{◌≡◌, ◌≢◌, ℕ, ◌<◌, ℤ, Bool, true, false, not, ◌||◌, ◌&&◌, cond, List, [], ◌∷◌, length, get_or, Option, Some, None, sym, ap, refl, ◌∙◌}
use Rattle.std.specs.List.{find, filter_map, list_any}
use Rattle.std.specs.Option.{option_and_then}
use Rattle.std.specs.Ordering.{int_eq}
use Rattle.std.proofs.lemmas.Bool.{false≢true}
use Rattle.std.proofs.lemmas.Bool.Decides.{Decides-int_eq}
use Rattle.std.proofs.lemmas.List.Folds.{list_any_at}
use Rattle.buckets.specs.declared.bucket.Bucket.{Bucket}
use Rattle.crush.specs.Forest.{bucket_at}
use Rattle.crush.specs.World.{World}
use Rattle.crush.specs.Descent.{device_below, leaf_below}

-- one more element of a search
passes_by : (p : ℤ → Bool) (x found : ℤ) (passes : Bool) (rest : Option ℤ) → p x ≡ passes → (rest ≡ Some found → p found ≡ true) → cond passes (Some x) rest ≡ Some found → p found ≡ true
passes_by p x found true rest e later h = let same : x ≡ found = cc in sym (ap p same) ∙ e
passes_by p x found false rest e later h = later h

-- what is found passes
find_passes : (p : ℤ → Bool) (xs : List ℤ) (found : ℤ) → find p xs ≡ Some found → p found ≡ true
find_passes p [] found h = absurd (cc)
find_passes p (x ∷ xs) found h = passes_by p x found (p x) (find p xs) refl (find_passes p xs found) h

-- what is found below a bucket is acceptable
found_in : (w : World) (accepts : ℤ → Bool) (rs : List (Bucket → ℕ)) (b : Option Bucket) (leaf : ℤ) → option_and_then (λ b. find accepts (filter_map (device_below w b) rs)) b ≡ Some leaf → accepts leaf ≡ true
found_in w accepts rs None leaf h = absurd (cc)
found_in w accepts rs (Some b) leaf h = find_passes accepts (filter_map (device_below w b) rs) leaf h

-- a leaf is acceptable
pub leaf_accepted : (w : World) (accepts : ℤ → Bool) (rs : List (Bucket → ℕ)) (item leaf : ℤ) → leaf_below w accepts rs item ≡ Some leaf → accepts leaf ≡ true
unfolding leaf_below
leaf_accepted w accepts rs item leaf h = found_in w accepts rs (bucket_at w.buckets item) leaf h

-- an element of which a test by a key finds none has another key
pub other_key : {X : Type 0} (key : X → ℤ) (xs : List X) (wanted : ℤ) → list_any (λ x. int_eq (key x) wanted) xs ≡ false → (k : ℕ) (d : X) → k < length xs → key (get_or xs k d) ≢ wanted
other_key {X} key xs wanted none k d within same =
    let test : X → Bool = λ x. int_eq (key x) wanted in
    let hit : test (get_or xs k d) ≡ true = (Decides-int_eq (key (get_or xs k d)) wanted).1 same in
    false≢true (sym none ∙ list_any_at test xs k d within hit)

-- neither of two tests holds
pub neither : (a b : Bool) → not (a || b) ≡ true → (a ≡ false) × (b ≡ false)
neither true b h = absurd (cc)
neither false true h = absurd (cc)
neither false false h = (refl, refl)

-- where the first of two tests fails the second holds
pub other_holds : (a b : Bool) → (a || b) ≡ true → a ≡ false → b ≡ true
other_holds true b h fails = absurd (cc)
other_holds false b h fails = h

-- a device at type 0 is not out where it is not barred
pub no_device : (level_zero out : Bool) → (level_zero && out) ≡ false → level_zero ≡ true → out ≡ false
no_device true out h z = h
no_device false out h z = absurd (cc)

-- a test that fails
pub not_true : (b : Bool) → not b ≡ true → b ≡ false
not_true true h = absurd (cc)
not_true false h = refl
