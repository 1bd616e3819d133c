-- What the list of a step states, by its word and the numbers behind it.
use Rattle.std.proofs.Common.{◌≡◌, ℕ, ℤ, suc, ◌==◌, Bool, true, false, List, [], ◌∷◌, codes, bytes_eq, Option, Some, None, option_map, option_and_then, if◌then◌else◌, refl, arith}
use Rattle.std.proofs.lemmas.Bool.{ne_eqb}
use Rattle.serde_json.specs.Data.{Data, null, boolean, number, string, array, object, Items, no_items, item}
use Rattle.serde_json.specs.Find.{as_array, as_str}
use Rattle.crush.specs.declared.step.Mode.{Mode}
use Rattle.crush.specs.declared.step.Mode.TheVariants.{Firstn, Indep}
use Rattle.mapparts.specs.declared.parts.StepPart.{StepPart}
use Rattle.mapparts.specs.declared.parts.StepPart.TheVariants as part
use Rattle.jsonstream.specs.Json.{◌>>=◌, whole_number, entries_of, has_count, item_count, place}
use Rattle.partjson.specs.declared.rules.StepWord.{StepWord}
use Rattle.partjson.specs.declared.rules.StepWord.TheVariants.{Take, Choose, Emit, Tries, LeafTries, LeafVary, LeafStable}
use Rattle.partjson.specs.StatedMaps.{stated_step, step_by, take_of, choose_of, emit_of, tries_of, leaf_tries_of, leaf_vary_of, leaf_stable_of}
use Rattle.partjson.specs.Steps.{step_word, step_word_of, one_number, emit_with, choose_with, step_with, step_if}

-- what is no list states no step
pub no_step : (d : Data) → as_array d ≡ None → stated_step d ≡ None
unfolding stated_step
no_step null e = refl
no_step (boolean b) e = refl
no_step (number n) e = refl
no_step (string s) e = refl
no_step (array ds) e = absurd (cc)
no_step (object ms) e = refl

-- ---- numbers behind a word

-- one number behind a word
one_at : (make : ℤ → StepPart) (o : Option ℤ) → option_and_then (λ n. Some (make n)) o ≡ option_and_then (λ ns. option_map make (one_number ns)) (option_and_then (λ x. option_map (λ xs. x ∷ xs) (Some [])) o)
one_at make None = refl
one_at make (Some x) = refl

-- two numbers or more are not one
not_one : (make : ℤ → StepPart) (o p : Option ℤ) (q : Option (List ℤ)) → None ≡ option_and_then (λ ns. option_map make (one_number ns)) (option_and_then (λ x. option_map (λ xs. x ∷ xs) (option_and_then (λ y. option_map (λ ys. y ∷ ys) q) p)) o)
not_one make None p q = refl
not_one make (Some x) None q = refl
not_one make (Some x) (Some y) None = refl
not_one make (Some x) (Some y) (Some ys) = refl

-- three or more are not two
three_or_more : (n : ℕ) → (suc (suc (suc n)) == 2) ≡ false
three_or_more n = ne_eqb (suc (suc (suc n))) 2 (λ e. omega (arith, e))

-- a step of one number
one_is : (make : ℤ → StepPart) (d : Data) (ds : Items) → (if has_count 2 (array (item d ds)) then (do
  n ← place whole_number 1 (array (item d ds))
  Some (make n)) else None) ≡ option_and_then (λ ns. option_map make (one_number ns)) (entries_of whole_number ds)
one_is make d no_items = refl
one_is make d (item e no_items) = one_at make (whole_number e)
one_is make d (item e (item f ds)) = rw (three_or_more (item_count ds)) (not_one make (whole_number e) (whole_number f) (entries_of whole_number ds))

-- one number or more are not none
not_none : (o : Option ℤ) (q : Option (List ℤ)) → None ≡ option_and_then emit_with (option_and_then (λ x. option_map (λ xs. x ∷ xs) q) o)
not_none None q = refl
not_none (Some x) None = refl
not_none (Some x) (Some xs) = refl

-- two or more are not one
two_or_more : (n : ℕ) → (suc (suc n) == 1) ≡ false
two_or_more n = ne_eqb (suc (suc n)) 1 (λ e. omega (arith, e))

-- a step of no number
none_is : (d : Data) (ds : Items) → (if has_count 1 (array (item d ds)) then Some part.Emit else None) ≡ option_and_then emit_with (entries_of whole_number ds)
none_is d no_items = refl
none_is d (item e ds) = rw (two_or_more (item_count ds)) (not_none (whole_number e) (entries_of whole_number ds))

module _ (mode : Mode) (to_leaf : Bool) where
  -- the choose step of a count and a type
  abbrev chosen : ℤ → ℤ → StepPart
  chosen count level = part.Choose (record { mode = mode; to_leaf = to_leaf; count = count; level = level })

  -- one number is not two
  first_alone : (o : Option ℤ) → None ≡ option_and_then (choose_with mode to_leaf) (option_and_then (λ x. option_map (λ xs. x ∷ xs) (Some [])) o)
  first_alone None = refl
  first_alone (Some x) = refl

  -- two numbers behind a word
  two_at : (o p : Option ℤ) → option_and_then (λ c. option_and_then (λ l. Some (chosen c l)) p) o
      ≡ option_and_then (choose_with mode to_leaf) (option_and_then (λ x. option_map (λ xs. x ∷ xs) (option_and_then (λ y. option_map (λ ys. y ∷ ys) (Some [])) p)) o)
  two_at None p = refl
  two_at (Some x) None = refl
  two_at (Some x) (Some y) = refl

  -- three numbers or more are not two
  not_two : (o p r : Option ℤ) (q : Option (List ℤ)) → None
      ≡ option_and_then (choose_with mode to_leaf) (option_and_then (λ x. option_map (λ xs. x ∷ xs) (option_and_then (λ y. option_map (λ ys. y ∷ ys) (option_and_then (λ z. option_map (λ zs. z ∷ zs) q) r)) p)) o)
  not_two None p r q = refl
  not_two (Some x) None r q = refl
  not_two (Some x) (Some y) None q = refl
  not_two (Some x) (Some y) (Some z) None = refl
  not_two (Some x) (Some y) (Some z) (Some zs) = refl

  -- four or more are not three
  four_or_more : (n : ℕ) → (suc (suc (suc (suc n))) == 3) ≡ false
  four_or_more n = ne_eqb (suc (suc (suc (suc n)))) 3 (λ e. omega (arith, e))

  -- a step of two numbers
  two_is : (d : Data) (ds : Items) → choose_of mode to_leaf (array (item d ds)) ≡ option_and_then (choose_with mode to_leaf) (entries_of whole_number ds)
  unfolding choose_of
  two_is d no_items = refl
  two_is d (item e no_items) = first_alone (whole_number e)
  two_is d (item e (item f no_items)) = two_at (whole_number e) (whole_number f)
  two_is d (item e (item f (item g ds))) = rw (four_or_more (item_count ds)) (not_two (whole_number e) (whole_number f) (whole_number g) (entries_of whole_number ds))

-- ---- by the word

-- what is picked by a word's test is what the word that the test picks leads to
picked : (f : StepWord → Option StepPart) (b : Bool) (w : StepWord) (x rest : Option StepPart) (others : Option StepWord) → x ≡ f w → rest ≡ option_and_then f others → (if b then x else rest) ≡ option_and_then f (if b then Some w else others)
picked f true w x rest others is later = is
picked f false w x rest others is later = later

-- what a list states is picked by its word
by_word : (d : Data) (ds : Items) (o : Option (List ℕ)) → option_and_then (λ w. step_by w (array (item d ds))) o ≡ step_if (option_and_then step_word o) (entries_of whole_number ds)
unfolding step_by take_of emit_of tries_of leaf_tries_of leaf_vary_of leaf_stable_of
by_word d ds None = refl
by_word d ds (Some w) =
    let f = λ (s : StepWord). option_and_then (step_with s) (entries_of whole_number ds) in
    picked f (bytes_eq w (codes "take")) Take _ _ _ (one_is (λ n. part.Take n) d ds)
    (picked f (bytes_eq w (codes "choose_firstn")) (Choose Firstn false) _ _ _ (two_is Firstn false d ds)
    (picked f (bytes_eq w (codes "choose_indep")) (Choose Indep false) _ _ _ (two_is Indep false d ds)
    (picked f (bytes_eq w (codes "chooseleaf_firstn")) (Choose Firstn true) _ _ _ (two_is Firstn true d ds)
    (picked f (bytes_eq w (codes "chooseleaf_indep")) (Choose Indep true) _ _ _ (two_is Indep true d ds)
    (picked f (bytes_eq w (codes "emit")) Emit _ _ _ (none_is d ds)
    (picked f (bytes_eq w (codes "set_choose_tries")) Tries _ _ _ (one_is (λ n. part.SetChooseTries n) d ds)
    (picked f (bytes_eq w (codes "set_chooseleaf_tries")) LeafTries _ _ _ (one_is (λ n. part.SetChooseleafTries n) d ds)
    (picked f (bytes_eq w (codes "set_chooseleaf_vary_r")) LeafVary _ _ _ (one_is (λ n. part.SetChooseleafVaryR n) d ds)
    (picked f (bytes_eq w (codes "set_chooseleaf_stable")) LeafStable _ _ _ (one_is (λ n. part.SetChooseleafStable n) d ds) refl)))))))))

-- a list states the step of its word and the numbers behind it
pub step_is : (d : Data) (ds : Items) → stated_step (array (item d ds)) ≡ step_if (step_word_of d) (entries_of whole_number ds)
unfolding stated_step
step_is d ds = by_word d ds (as_str d)
