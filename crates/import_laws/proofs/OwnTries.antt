-- How steps try, in CRUSH over a cluster's own map and over the map it comes in as.
use Rattle.std.proofs.Common.{◌≡◌, ℕ, ℤ, pos, true, false, List, [], ◌∷◌, ◌⊎◌, inl, inr, refl, ◌∙◌, arith}
use Rattle.std.specs.Prelude.{int_lt, int_le}
use Rattle.std.specs.List.{list_any}
use Rattle.std.proofs.lemmas.Bool.{cases_Bool, and_parts}
use Rattle.std.proofs.lemmas.Int.{ints}
use Rattle.crush.specs.declared.choose.Tries.{Tries}
use Rattle.crush.specs.Run.{Progress, after_step}
use Rattle.crush.specs.World.{World}
use Rattle.mapparts.specs.declared.parts.StepPart.{StepPart}
use Rattle.mapparts.specs.Parts.{is_between, step_fits_in, step_fits}
use Rattle.maptypes.specs.Values.{step_of}
use Rattle.cephmap.specs.declared.rule.Step.{Step}
use Rattle.cephmap.specs.declared.rule.StepWord.{StepWord}
use Rattle.cephmap.specs.declared.rule.StepWord.TheVariants as words
use Rattle.cephimport.specs.declared.tuned.Tuned.{Tuned}
use Rattle.cephimport.specs.declared.tuned.Tuned.TheVariants as tuned
use Rattle.cephimport.specs.Steps.{is_setting, other_step, part_of_word, imported_step}
use Rattle.cephimport.specs.Tuned.{is_leaf_choice, sets, sets_first}
use Rattle.cephimport.specs.Uses.{is_take}
use Rattle.import_laws.specs.Own.{after_word, after_own}
use Rattle.import_laws.proofs.StepForms.{sets_alone}

-- steps try alike, as far as those ahead look
pub record TryAlike (rest : List Step) (own made : Tries) : Type 0 where
  pub leaf : own.leaf ≡ made.leaf
  pub total : own.total ≡ made.total
  pub vary : list_any is_leaf_choice rest ≡ true → own.vary ≡ made.vary
  pub stable : list_any is_leaf_choice rest ≡ true → own.stable ≡ made.stable

-- or would but for what steps ahead set before they take anything
pub record AreUnset (rest : List Step) (own made : Tries) : Type 0 where
  pub leaf : own.leaf ≡ made.leaf
  pub total : sets_first tuned.Tries rest ≡ false → own.total ≡ made.total
  pub vary : sets_first tuned.VaryR rest ≡ false → list_any is_leaf_choice rest ≡ true → own.vary ≡ made.vary
  pub stable : sets_first tuned.Stable rest ≡ false → list_any is_leaf_choice rest ≡ true → own.stable ≡ made.stable

-- they try alike, or nothing is worked on
abbrev pub TryAlikeFrom : List Step → Progress → Progress → Type 0
TryAlikeFrom rest own made =
    TryAlike rest own.tries made.tries
    ⊎ (AreUnset rest own.tries made.tries × (own.working ≡ []) × (made.working ≡ []))

-- what steps behind one look at, it and they look at
pub looks_behind : (s : Step) (rest : List Step) → list_any is_leaf_choice rest ≡ true → list_any is_leaf_choice (s ∷ rest) ≡ true
looks_behind s rest e = elim (cases_Bool (is_leaf_choice s)) [
  | inl here ↦ rw here refl
  | inr not_so ↦ rw not_so e
]

-- behind a step they try alike still
pub alike_behind : (s : Step) (rest : List Step) (own made : Tries) → TryAlike (s ∷ rest) own made → TryAlike rest own made
alike_behind s rest own made h = record {
  leaf = h.leaf;
  total = h.total;
  vary = λ e. h.vary (looks_behind s rest e);
  stable = λ e. h.stable (looks_behind s rest e);
}

-- what is set first ahead of a step that neither takes nor sets it
first_on : (t : Tuned) (s : Step) (rest : List Step) → is_take s.word ≡ false → sets t s.word ≡ false → sets_first t (s ∷ rest) ≡ sets_first t rest
unfolding sets_first
first_on t s rest takes none = rw takes (rw none refl)

-- behind a step that neither takes nor sets they are unset still
pub unset_behind : (s : Step) (rest : List Step) (own made : Tries) → is_take s.word ≡ false → ((t : Tuned) → sets t s.word ≡ false) → AreUnset (s ∷ rest) own made → AreUnset rest own made
unset_behind s rest own made takes none h = record {
  leaf = h.leaf;
  total = λ e. h.total (first_on tuned.Tries s rest takes (none tuned.Tries) ∙ e);
  vary = λ e look. h.vary (first_on tuned.VaryR s rest takes (none tuned.VaryR) ∙ e) (looks_behind s rest look);
  stable = λ e look. h.stable (first_on tuned.Stable s rest takes (none tuned.Stable) ∙ e) (looks_behind s rest look);
}

-- nothing is set before a step that takes
take_first : (t : Tuned) (s : Step) (rest : List Step) → s.word ≡ words.Take → sets_first t (s ∷ rest) ≡ false
unfolding sets_first
take_first t s rest is = rw is refl

-- so behind it they try alike
unset_taken : (s : Step) (rest : List Step) (own made : Tries) → s.word ≡ words.Take → AreUnset (s ∷ rest) own made → TryAlike rest own made
unset_taken s rest own made is h = record {
  leaf = h.leaf;
  total = h.total (take_first tuned.Tries s rest is);
  vary = λ look. h.vary (take_first tuned.VaryR s rest is) (looks_behind s rest look);
  stable = λ look. h.stable (take_first tuned.Stable s rest is) (looks_behind s rest look);
}

-- behind a step that takes
pub tries_taken : (s : Step) (rest : List Step) (p q : Progress) → s.word ≡ words.Take → TryAlikeFrom (s ∷ rest) p q → TryAlike rest p.tries q.tries
tries_taken s rest p q is (inl h) = alike_behind s rest p.tries q.tries h
tries_taken s rest p q is (inr h) = unset_taken s rest p.tries q.tries is h.0

-- ---- steps that set something

-- a number within limits from 1 on is above 0
above_zero : (n : ℤ) (most : ℕ) → is_between (pos 1) (pos most) n ≡ true → int_lt (pos 0) n ≡ true
unfolding is_between
above_zero n most e =
    let low : int_le (pos 1) n ≡ true = (and_parts (int_le (pos 1) n) (int_le n (pos most)) e).0 in
    grind (arith, ints, low)

-- and one from 0 on is not below it
from_zero : (n : ℤ) (most : ℕ) → is_between (pos 0) (pos most) n ≡ true → int_le (pos 0) n ≡ true
unfolding is_between
from_zero n most e = (and_parts (int_le (pos 0) n) (int_le n (pos most)) e).0

-- what a step of a word makes of how steps try: what it sets is alike, what it does not set stays alike
pub record SetsAlike (word : StepWord) (p q p' q' : Tries) : Type 0 where
  pub leaf : p.leaf ≡ q.leaf → p'.leaf ≡ q'.leaf
  pub total : p.total ≡ q.total → p'.total ≡ q'.total
  pub total_set : sets tuned.Tries word ≡ true → p'.total ≡ q'.total
  pub vary : p.vary ≡ q.vary → p'.vary ≡ q'.vary
  pub vary_set : sets tuned.VaryR word ≡ true → p'.vary ≡ q'.vary
  pub stable : p.stable ≡ q.stable → p'.stable ≡ q'.stable
  pub stable_set : sets tuned.Stable word ≡ true → p'.stable ≡ q'.stable

-- each step that sets something does so alike
sets_alike : (word : StepWord) (w v : World) (size : ℕ) (p q : Progress) (s : Step) → is_setting word ≡ true → step_fits (other_step word s.first) ≡ true → SetsAlike word p.tries q.tries (after_word word w size p s).tries (after_step v size q (step_of (other_step word s.first))).tries
unfolding after_word after_step step_fits_in
sets_alike words.Nothing w v size p q s is fits = absurd (cc)
sets_alike words.Take w v size p q s is fits = absurd (cc)
sets_alike words.ChooseFirstN w v size p q s is fits = absurd (cc)
sets_alike words.ChooseIndep w v size p q s is fits = absurd (cc)
sets_alike words.Emit w v size p q s is fits = absurd (cc)
sets_alike words.ChooseLeafFirstN w v size p q s is fits = absurd (cc)
sets_alike words.ChooseLeafIndep w v size p q s is fits = absurd (cc)
sets_alike words.SetChooseTries w v size p q s is fits =
    let some = above_zero s.first _ fits in
    record {
      leaf = λ h. h;
      total = λ h. rw some refl;
      total_set = λ e. rw some refl;
      vary = λ h. h;
      vary_set = λ e. absurd (cc);
      stable = λ h. h;
      stable_set = λ e. absurd (cc);
    }
sets_alike words.SetChooseLeafTries w v size p q s is fits =
    let some = above_zero s.first _ fits in
    record {
      leaf = λ h. rw some refl;
      total = λ h. h;
      total_set = λ e. absurd (cc);
      vary = λ h. h;
      vary_set = λ e. absurd (cc);
      stable = λ h. h;
      stable_set = λ e. absurd (cc);
    }
sets_alike words.SetChooseLocalTries w v size p q s is fits = absurd (cc)
sets_alike words.SetChooseLocalFallbackTries w v size p q s is fits = absurd (cc)
sets_alike words.SetChooseLeafVaryR w v size p q s is fits =
    let some = from_zero s.first _ fits in
    record {
      leaf = λ h. h;
      total = λ h. h;
      total_set = λ e. absurd (cc);
      vary = λ h. rw some refl;
      vary_set = λ e. rw some refl;
      stable = λ h. h;
      stable_set = λ e. absurd (cc);
    }
sets_alike words.SetChooseLeafStable w v size p q s is fits =
    let some = from_zero s.first _ fits in
    record {
      leaf = λ h. h;
      total = λ h. h;
      total_set = λ e. absurd (cc);
      vary = λ h. h;
      vary_set = λ e. absurd (cc);
      stable = λ h. rw some refl;
      stable_set = λ e. rw some refl;
    }

-- where they tried alike, they do
set_alike : (s : Step) (rest : List Step) (p q p' q' : Tries) → SetsAlike s.word p q p' q' → TryAlike (s ∷ rest) p q → TryAlike rest p' q'
set_alike s rest p q p' q' c h = record {
  leaf = c.leaf h.leaf;
  total = c.total h.total;
  vary = λ look. c.vary (h.vary (looks_behind s rest look));
  stable = λ look. c.stable (h.stable (looks_behind s rest look));
}

-- where they were unset, they are but for what was set
set_unset : (s : Step) (rest : List Step) (p q p' q' : Tries) → is_take s.word ≡ false → SetsAlike s.word p q p' q' → AreUnset (s ∷ rest) p q → AreUnset rest p' q'
set_unset s rest p q p' q' takes c h = record {
  leaf = c.leaf h.leaf;
  total = λ e. elim (cases_Bool (sets tuned.Tries s.word)) [
    | inl set ↦ c.total_set set
    | inr not_set ↦ c.total (h.total (first_on tuned.Tries s rest takes not_set ∙ e))
  ];
  vary = λ e look. elim (cases_Bool (sets tuned.VaryR s.word)) [
    | inl set ↦ c.vary_set set
    | inr not_set ↦ c.vary (h.vary (first_on tuned.VaryR s rest takes not_set ∙ e) (looks_behind s rest look))
  ];
  stable = λ e look. elim (cases_Bool (sets tuned.Stable s.word)) [
    | inl set ↦ c.stable_set set
    | inr not_set ↦ c.stable (h.stable (first_on tuned.Stable s rest takes not_set ∙ e) (looks_behind s rest look))
  ];
}

-- what the map has for a step that sets something
part_set : (word : StepWord) (size : ℕ) (s : Step) → is_setting word ≡ true → part_of_word word size s ≡ other_step s.word s.first
part_set words.Nothing size s is = absurd (cc)
part_set words.Take size s is = absurd (cc)
part_set words.ChooseFirstN size s is = absurd (cc)
part_set words.ChooseIndep size s is = absurd (cc)
part_set words.Emit size s is = absurd (cc)
part_set words.ChooseLeafFirstN size s is = absurd (cc)
part_set words.ChooseLeafIndep size s is = absurd (cc)
part_set words.SetChooseTries size s is = refl
part_set words.SetChooseLeafTries size s is = refl
part_set words.SetChooseLocalTries size s is = absurd (cc)
part_set words.SetChooseLocalFallbackTries size s is = absurd (cc)
part_set words.SetChooseLeafVaryR size s is = refl
part_set words.SetChooseLeafStable size s is = refl

-- it is that of its word
pub setting_part : (size : ℕ) (s : Step) → is_setting s.word ≡ true → imported_step size s ≡ other_step s.word s.first
unfolding imported_step
setting_part size s is = part_set s.word size s is

-- behind a step that sets something steps try alike, where what is worked on stays
pub tries_set : (w v : World) (size : ℕ) (s : Step) (rest : List Step) (p q : Progress) → is_setting s.word ≡ true → step_fits (other_step s.word s.first) ≡ true → (after_step v size q (step_of (other_step s.word s.first))).working ≡ q.working → TryAlikeFrom (s ∷ rest) p q → TryAlikeFrom rest (after_own w size p s) (after_step v size q (step_of (other_step s.word s.first)))
tries_set w v size s rest p q is fits same (inl h) =
    inl (set_alike s rest p.tries q.tries (after_own w size p s).tries (after_step v size q (step_of (other_step s.word s.first))).tries (sets_alike s.word w v size p q s is fits) h)
tries_set w v size s rest p q is fits same (inr h) =
    let alone = sets_alone s.word is in
    inr (set_unset s rest p.tries q.tries (after_own w size p s).tries (after_step v size q (step_of (other_step s.word s.first))).tries alone.takes (sets_alike s.word w v size p q s is fits) h.0, alone.working w size p s ∙ h.1, same ∙ h.2)

-- a step that sets something leaves what the map's rule works on and emitted
pub record SetsTries (v : World) (size : ℕ) (q : Progress) (part : StepPart) : Type 0 where
  pub working : (after_step v size q (step_of part)).working ≡ q.working
  pub emitted : (after_step v size q (step_of part)).emitted ≡ q.emitted

-- each of them
pub made_set : (word : StepWord) (n : ℤ) (v : World) (size : ℕ) (q : Progress) → is_setting word ≡ true → SetsTries v size q (other_step word n)
unfolding after_step
made_set words.Nothing n v size q is = absurd (cc)
made_set words.Take n v size q is = absurd (cc)
made_set words.ChooseFirstN n v size q is = absurd (cc)
made_set words.ChooseIndep n v size q is = absurd (cc)
made_set words.Emit n v size q is = absurd (cc)
made_set words.ChooseLeafFirstN n v size q is = absurd (cc)
made_set words.ChooseLeafIndep n v size q is = absurd (cc)
made_set words.SetChooseTries n v size q is = record { working = refl; emitted = refl }
made_set words.SetChooseLeafTries n v size q is = record { working = refl; emitted = refl }
made_set words.SetChooseLocalTries n v size q is = absurd (cc)
made_set words.SetChooseLocalFallbackTries n v size q is = absurd (cc)
made_set words.SetChooseLeafVaryR n v size q is = record { working = refl; emitted = refl }
made_set words.SetChooseLeafStable n v size q is = record { working = refl; emitted = refl }

-- no tunable is set by a word that sets nothing
pub sets_none : (t : Tuned) (word : StepWord) → is_setting word ≡ false → sets t word ≡ false
sets_none tuned.Tries words.Nothing not_so = refl
sets_none tuned.Tries words.Take not_so = refl
sets_none tuned.Tries words.ChooseFirstN not_so = refl
sets_none tuned.Tries words.ChooseIndep not_so = refl
sets_none tuned.Tries words.Emit not_so = refl
sets_none tuned.Tries words.ChooseLeafFirstN not_so = refl
sets_none tuned.Tries words.ChooseLeafIndep not_so = refl
sets_none tuned.Tries words.SetChooseTries not_so = absurd (cc)
sets_none tuned.Tries words.SetChooseLeafTries not_so = absurd (cc)
sets_none tuned.Tries words.SetChooseLocalTries not_so = refl
sets_none tuned.Tries words.SetChooseLocalFallbackTries not_so = refl
sets_none tuned.Tries words.SetChooseLeafVaryR not_so = absurd (cc)
sets_none tuned.Tries words.SetChooseLeafStable not_so = absurd (cc)
sets_none tuned.VaryR words.Nothing not_so = refl
sets_none tuned.VaryR words.Take not_so = refl
sets_none tuned.VaryR words.ChooseFirstN not_so = refl
sets_none tuned.VaryR words.ChooseIndep not_so = refl
sets_none tuned.VaryR words.Emit not_so = refl
sets_none tuned.VaryR words.ChooseLeafFirstN not_so = refl
sets_none tuned.VaryR words.ChooseLeafIndep not_so = refl
sets_none tuned.VaryR words.SetChooseTries not_so = absurd (cc)
sets_none tuned.VaryR words.SetChooseLeafTries not_so = absurd (cc)
sets_none tuned.VaryR words.SetChooseLocalTries not_so = refl
sets_none tuned.VaryR words.SetChooseLocalFallbackTries not_so = refl
sets_none tuned.VaryR words.SetChooseLeafVaryR not_so = absurd (cc)
sets_none tuned.VaryR words.SetChooseLeafStable not_so = absurd (cc)
sets_none tuned.Stable words.Nothing not_so = refl
sets_none tuned.Stable words.Take not_so = refl
sets_none tuned.Stable words.ChooseFirstN not_so = refl
sets_none tuned.Stable words.ChooseIndep not_so = refl
sets_none tuned.Stable words.Emit not_so = refl
sets_none tuned.Stable words.ChooseLeafFirstN not_so = refl
sets_none tuned.Stable words.ChooseLeafIndep not_so = refl
sets_none tuned.Stable words.SetChooseTries not_so = absurd (cc)
sets_none tuned.Stable words.SetChooseLeafTries not_so = absurd (cc)
sets_none tuned.Stable words.SetChooseLocalTries not_so = refl
sets_none tuned.Stable words.SetChooseLocalFallbackTries not_so = refl
sets_none tuned.Stable words.SetChooseLeafVaryR not_so = absurd (cc)
sets_none tuned.Stable words.SetChooseLeafStable not_so = absurd (cc)
