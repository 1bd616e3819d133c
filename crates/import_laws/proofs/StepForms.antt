-- What the words of steps do in CRUSH over a cluster's own map, by what kind of word they are.
use Rattle.std.proofs.Common.{◌≡◌, ℕ, ◌||◌, Bool, true, false, List, ◌∷◌, ◌⊎◌, inl, inr, refl}
use Rattle.crush.specs.declared.step.Mode.{Mode}
use Rattle.crush.specs.declared.step.Mode.TheVariants.{Firstn, Indep}
use Rattle.crush.specs.Run.{Progress}
use Rattle.crush.specs.World.{World}
use Rattle.cephmap.specs.declared.rule.Step.{Step}
use Rattle.cephmap.specs.declared.rule.StepWord.{StepWord}
use Rattle.cephmap.specs.declared.rule.StepWord.TheVariants as words
use Rattle.cephimport.specs.FitRules.{is_known_word}
use Rattle.cephimport.specs.Steps.{is_setting, emits, chooses, choose_part, part_of_word, is_idle, takes_ahead, leaves_nothing, idle_ahead}
use Rattle.cephimport.specs.Tuned.{is_leaf_word}
use Rattle.cephimport.specs.Uses.{is_take}
use Rattle.import_laws.specs.Own.{after_choose, seeks_below, after_word}

-- ---- the kinds of words

-- a word that is known takes, chooses, emits or sets something
pub record IsOfKind (word : StepWord) : Type 0 where
  pub is : (word ≡ words.Take) ⊎ ((word ≡ words.Emit) ⊎ ((chooses word ≡ true) ⊎ (is_setting word ≡ true)))

-- each known word is of a kind
pub kind_of : (word : StepWord) → is_known_word word ≡ true → IsOfKind word
kind_of words.Nothing known = absurd (cc)
kind_of words.Take known = record { is = inl refl }
kind_of words.ChooseFirstN known = record { is = inr (inr (inl refl)) }
kind_of words.ChooseIndep known = record { is = inr (inr (inl refl)) }
kind_of words.Emit known = record { is = inr (inl refl) }
kind_of words.ChooseLeafFirstN known = record { is = inr (inr (inl refl)) }
kind_of words.ChooseLeafIndep known = record { is = inr (inr (inl refl)) }
kind_of words.SetChooseTries known = record { is = inr (inr (inr refl)) }
kind_of words.SetChooseLeafTries known = record { is = inr (inr (inr refl)) }
kind_of words.SetChooseLocalTries known = absurd (cc)
kind_of words.SetChooseLocalFallbackTries known = absurd (cc)
kind_of words.SetChooseLeafVaryR known = record { is = inr (inr (inr refl)) }
kind_of words.SetChooseLeafStable known = record { is = inr (inr (inr refl)) }

-- a step that chooses: by which mode, whether leaves, what it does, and what the map has for it
pub record IsChoice (word : StepWord) (s : Step) : Type 0 where
  pub mode : Mode
  pub to_leaf : Bool
  pub does : (w : World) (size : ℕ) (p : Progress) → after_word word w size p s ≡ after_choose w size p mode to_leaf s
  pub part : (size : ℕ) → part_of_word word size s ≡ choose_part mode to_leaf size s
  pub leafy : mode ≡ Firstn → to_leaf ≡ true → is_leaf_word word ≡ true

-- each word that chooses does so by a mode
pub choice_of : (word : StepWord) (s : Step) → chooses word ≡ true → IsChoice word s
unfolding after_word
choice_of words.Nothing s is = absurd (cc)
choice_of words.Take s is = absurd (cc)
choice_of words.ChooseFirstN s is = record { mode = Firstn; to_leaf = false; does = λ w size p. refl; part = λ size. refl; leafy = λ m e. absurd (cc) }
choice_of words.ChooseIndep s is = record { mode = Indep; to_leaf = false; does = λ w size p. refl; part = λ size. refl; leafy = λ m e. absurd (cc) }
choice_of words.Emit s is = absurd (cc)
choice_of words.ChooseLeafFirstN s is = record { mode = Firstn; to_leaf = seeks_below s; does = λ w size p. refl; part = λ size. refl; leafy = λ m e. refl }
choice_of words.ChooseLeafIndep s is = record { mode = Indep; to_leaf = true; does = λ w size p. refl; part = λ size. refl; leafy = λ m e. absurd (cc) }
choice_of words.SetChooseTries s is = absurd (cc)
choice_of words.SetChooseLeafTries s is = absurd (cc)
choice_of words.SetChooseLocalTries s is = absurd (cc)
choice_of words.SetChooseLocalFallbackTries s is = absurd (cc)
choice_of words.SetChooseLeafVaryR s is = absurd (cc)
choice_of words.SetChooseLeafStable s is = absurd (cc)

-- a word that chooses does nothing else
pub record ChoosesAlone (word : StepWord) : Type 0 where
  pub takes : is_take word ≡ false
  pub emits : emits word ≡ false
  pub sets : is_setting word ≡ false

-- each of them
pub chooses_alone : (word : StepWord) → chooses word ≡ true → ChoosesAlone word
chooses_alone words.Nothing is = absurd (cc)
chooses_alone words.Take is = absurd (cc)
chooses_alone words.ChooseFirstN is = record { takes = refl; emits = refl; sets = refl }
chooses_alone words.ChooseIndep is = record { takes = refl; emits = refl; sets = refl }
chooses_alone words.Emit is = absurd (cc)
chooses_alone words.ChooseLeafFirstN is = record { takes = refl; emits = refl; sets = refl }
chooses_alone words.ChooseLeafIndep is = record { takes = refl; emits = refl; sets = refl }
chooses_alone words.SetChooseTries is = absurd (cc)
chooses_alone words.SetChooseLeafTries is = absurd (cc)
chooses_alone words.SetChooseLocalTries is = absurd (cc)
chooses_alone words.SetChooseLocalFallbackTries is = absurd (cc)
chooses_alone words.SetChooseLeafVaryR is = absurd (cc)
chooses_alone words.SetChooseLeafStable is = absurd (cc)

-- a word that sets something does nothing else, and leaves what is worked on and what was emitted
pub record SetsAlone (word : StepWord) : Type 0 where
  pub takes : is_take word ≡ false
  pub emits : emits word ≡ false
  pub chooses : chooses word ≡ false
  pub leafy : is_leaf_word word ≡ false
  pub working : (w : World) (size : ℕ) (p : Progress) (s : Step) → (after_word word w size p s).working ≡ p.working
  pub emitted : (w : World) (size : ℕ) (p : Progress) (s : Step) → (after_word word w size p s).emitted ≡ p.emitted

-- each of them
pub sets_alone : (word : StepWord) → is_setting word ≡ true → SetsAlone word
unfolding after_word
sets_alone words.Nothing is = absurd (cc)
sets_alone words.Take is = absurd (cc)
sets_alone words.ChooseFirstN is = absurd (cc)
sets_alone words.ChooseIndep is = absurd (cc)
sets_alone words.Emit is = absurd (cc)
sets_alone words.ChooseLeafFirstN is = absurd (cc)
sets_alone words.ChooseLeafIndep is = absurd (cc)
sets_alone words.SetChooseTries is = record { takes = refl; emits = refl; chooses = refl; leafy = refl; working = λ w size p s. refl; emitted = λ w size p s. refl }
sets_alone words.SetChooseLeafTries is = record { takes = refl; emits = refl; chooses = refl; leafy = refl; working = λ w size p s. refl; emitted = λ w size p s. refl }
sets_alone words.SetChooseLocalTries is = absurd (cc)
sets_alone words.SetChooseLocalFallbackTries is = absurd (cc)
sets_alone words.SetChooseLeafVaryR is = record { takes = refl; emits = refl; chooses = refl; leafy = refl; working = λ w size p s. refl; emitted = λ w size p s. refl }
sets_alone words.SetChooseLeafStable is = record { takes = refl; emits = refl; chooses = refl; leafy = refl; working = λ w size p s. refl; emitted = λ w size p s. refl }

-- ---- what is ahead

-- a step that neither emits nor chooses leaves what is idle ahead
pub idle_on : (size : ℕ) (s : Step) (rest : List Step) → emits s.word ≡ false → chooses s.word ≡ false → idle_ahead size (s ∷ rest) ≡ idle_ahead size rest
unfolding idle_ahead is_idle
idle_on size s rest e c = rw e (rw c refl)

-- and one that neither emits nor takes what is taken ahead
pub takes_on : (s : Step) (rest : List Step) → emits s.word ≡ false → is_take s.word ≡ false → takes_ahead (s ∷ rest) ≡ takes_ahead rest
unfolding takes_ahead
takes_on s rest e t = rw e (rw t refl)

-- one that takes is ahead of itself
pub takes_here : (s : Step) (rest : List Step) → s.word ≡ words.Take → takes_ahead (s ∷ rest) ≡ true
unfolding takes_ahead
takes_here s rest t = rw t refl

-- nothing is ahead of an emit
pub none_ahead : (size : ℕ) (s : Step) (rest : List Step) → s.word ≡ words.Emit → (idle_ahead size (s ∷ rest) ≡ false) × (takes_ahead (s ∷ rest) ≡ false)
unfolding idle_ahead takes_ahead
none_ahead size s rest e = (rw e refl, rw e refl)

-- a step that chooses is idle, or one ahead of it is
pub idle_choice : (size : ℕ) (s : Step) (rest : List Step) → chooses s.word ≡ true → idle_ahead size (s ∷ rest) ≡ (leaves_nothing size s rest || idle_ahead size rest)
unfolding idle_ahead
idle_choice size s rest is = let alone = chooses_alone s.word is in rw alone.emits refl
