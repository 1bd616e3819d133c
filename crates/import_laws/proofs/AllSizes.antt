-- A rule without a negative count is the same for pools of all sizes.
use Rattle.std.proofs.Common.{◌≡◌, ℕ, pos, ◌&&◌, ◌||◌, Bool, true, false, not, cond, List, [], ◌∷◌, refl}
use Rattle.std.specs.Prelude.{int_lt}
use Rattle.crush.specs.declared.step.Mode.{Mode}
use Rattle.cephmap.specs.declared.crush.Tunables.{Tunables}
use Rattle.cephmap.specs.declared.rule.Step.{Step}
use Rattle.cephmap.specs.declared.rule.StepWord.{StepWord}
use Rattle.cephmap.specs.declared.rule.StepWord.TheVariants as words
use Rattle.cephimport.specs.FitRules.{has_negative}
use Rattle.cephimport.specs.Rules.{rule_steps}
use Rattle.cephimport.specs.Steps.{emits, chooses, count_for, choose_part, part_of_word, imported_step, is_idle, idle_ahead, idle_behind, lives, keeps, kept_steps}

-- a step chooses by the size of a pool
abbrev is_by_size : Step → Bool
is_by_size s = chooses s.word && int_lt s.first (pos 0)

-- neither of two tests passes
neither : (a b : Bool) → (a || b) ≡ false → (a ≡ false) × (b ≡ false)
neither true b e = absurd (cc)
neither false b e = (refl, e)

-- a choice that is not negative is the same
choice_same : (mode : Mode) (to_leaf : Bool) (a b : ℕ) (s : Step) → int_lt s.first (pos 0) ≡ false → choose_part mode to_leaf a s ≡ choose_part mode to_leaf b s
unfolding choose_part count_for
choice_same mode to_leaf a b s e = rw e refl

-- so is each step
word_same : (word : StepWord) (a b : ℕ) (s : Step) → (chooses word && int_lt s.first (pos 0)) ≡ false → part_of_word word a s ≡ part_of_word word b s
word_same words.Nothing a b s e = refl
word_same words.Take a b s e = refl
word_same words.ChooseFirstN a b s e = choice_same _ _ a b s e
word_same words.ChooseIndep a b s e = choice_same _ _ a b s e
word_same words.Emit a b s e = refl
word_same words.ChooseLeafFirstN a b s e = choice_same _ _ a b s e
word_same words.ChooseLeafIndep a b s e = choice_same _ _ a b s e
word_same words.SetChooseTries a b s e = refl
word_same words.SetChooseLeafTries a b s e = refl
word_same words.SetChooseLocalTries a b s e = refl
word_same words.SetChooseLocalFallbackTries a b s e = refl
word_same words.SetChooseLeafVaryR a b s e = refl
word_same words.SetChooseLeafStable a b s e = refl

-- each by itself
step_same : (a b : ℕ) (s : Step) → is_by_size s ≡ false → imported_step a s ≡ imported_step b s
unfolding imported_step
step_same a b s e = word_same s.word a b s e

-- none is idle
never_idle : (size : ℕ) (s : Step) → is_by_size s ≡ false → is_idle size s ≡ false
unfolding is_idle
never_idle size s e = rw e refl

-- nor is one ahead
none_idle : (size : ℕ) (steps : List Step) → has_negative steps ≡ false → idle_ahead size steps ≡ false
unfolding idle_ahead
none_idle size [] e = refl
none_idle size (s ∷ rest) e =
    let parts = neither (is_by_size s) (has_negative rest) e in
    let busy = never_idle size s parts.0 in
    let later = none_idle size rest parts.1 in
    rw (busy, later) (nothing_left (emits s.word))
  where
    nothing_left : (b : Bool) → (not b && (false || false)) ≡ false
    nothing_left true = refl
    nothing_left false = refl

-- so no block is
still_live : (size : ℕ) (s : Step) (rest : List Step) → has_negative rest ≡ false → idle_behind size false s rest ≡ false
unfolding idle_behind
still_live size s rest e = rw (none_idle size rest e) (either_false (emits s.word))
  where
    either_false : (b : Bool) → cond b false false ≡ false
    either_false true = refl
    either_false false = refl

-- the same steps live
lives_same : (a b : ℕ) (steps : List Step) → has_negative steps ≡ false → lives a false steps ≡ lives b false steps
unfolding lives
lives_same a b [] e = refl
lives_same a b (s ∷ rest) e =
    let parts = neither (is_by_size s) (has_negative rest) e in
    rw (still_live a s rest parts.1, still_live b s rest parts.1, lives_same a b rest parts.1) refl

-- and stay
keeps_same : (a b : ℕ) (s : Step) (rest : List Step) → has_negative rest ≡ false → keeps a false s rest ≡ keeps b false s rest
unfolding keeps
keeps_same a b s rest e = rw (lives_same a b rest e) refl

-- as the same steps
kept_same : (a b : ℕ) (steps : List Step) → has_negative steps ≡ false → kept_steps a false steps ≡ kept_steps b false steps
unfolding kept_steps
kept_same a b [] e = refl
kept_same a b (s ∷ rest) e =
    let parts = neither (is_by_size s) (has_negative rest) e in
    rw (still_live a s rest parts.1, still_live b s rest parts.1, keeps_same a b s rest parts.1, step_same a b s parts.0, kept_same a b rest parts.1) refl

-- so is the whole rule
pub sizes_same : (t : Tunables) (a b : ℕ) (steps : List Step) → has_negative steps ≡ false → rule_steps t a steps ≡ rule_steps t b steps
unfolding rule_steps
sizes_same t a b steps e = rw (none_idle a steps e, none_idle b steps e, kept_same a b steps e) refl
