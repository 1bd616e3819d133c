-- Steps of rules as a map states them. In Ceph a negative count is that of a pool's size less as many.
use Rattle.std.specs.Prelude.{ℕ, ◌==◌, ℤ, pos, ◌+ℤ◌, int_lt, int_le, Bool, true, false, not, ◌&&◌, ◌||◌, List, [], ◌∷◌, Option, Some, None, if◌then◌else◌}
use Rattle.std.specs.Ordering.{int_eq}
use Rattle.std.specs.List.{cons_option}
use Rattle.crush.specs.declared.step.Mode.{Mode}
use Rattle.crush.specs.declared.step.Mode.TheVariants.{Firstn, Indep}
use Rattle.cephmap.specs.declared.rule.Step.{Step}
use Rattle.cephmap.specs.declared.rule.StepWord.{StepWord}
use Rattle.cephmap.specs.declared.rule.StepWord.TheVariants as words
use Rattle.mapparts.specs.declared.parts.StepPart.{StepPart}
use Rattle.mapparts.specs.declared.parts.StepPart.TheVariants.{SetChooseTries, SetChooseleafTries, SetChooseleafVaryR, SetChooseleafStable, Take, Choose, Emit}
use Rattle.cephimport.specs.Uses.{is_take}

-- a step that sets how later ones choose
abbrev pub is_setting : StepWord → Bool
is_setting words.SetChooseTries = true
is_setting words.SetChooseLeafTries = true
is_setting words.SetChooseLeafVaryR = true
is_setting words.SetChooseLeafStable = true
is_setting _ = false

-- a step of this word emits
abbrev pub emits : StepWord → Bool
emits words.Emit = true
emits _ = false

-- a step of this word chooses
abbrev pub chooses : StepWord → Bool
chooses words.ChooseFirstN = true
chooses words.ChooseIndep = true
chooses words.ChooseLeafFirstN = true
chooses words.ChooseLeafIndep = true
chooses _ = false

-- how many items a step chooses for a pool of a size
unfoldable pub count_for : ℕ → ℤ → ℤ
count_for size count = if int_lt count (pos 0) then count +ℤ pos size else count

-- a step that chooses for a pool of a size: by a mode, items of a type or leaves below them
unfoldable pub choose_part : Mode → Bool → ℕ → Step → StepPart
choose_part mode to_leaf size s =
    Choose (record { mode = mode; to_leaf = to_leaf; count = count_for size s.first; level = s.second })

-- a step that does not choose; a map with one of another word in use stays out
abbrev pub other_step : StepWord → ℤ → StepPart
other_step words.Take n = Take n
other_step words.SetChooseTries n = SetChooseTries n
other_step words.SetChooseLeafTries n = SetChooseleafTries n
other_step words.SetChooseLeafVaryR n = SetChooseleafVaryR n
other_step words.SetChooseLeafStable n = SetChooseleafStable n
other_step _ n = Emit

-- a leaf below each device is the device
abbrev pub part_of_word : StepWord → ℕ → Step → StepPart
part_of_word words.ChooseFirstN size s = choose_part Firstn false size s
part_of_word words.ChooseIndep size s = choose_part Indep false size s
part_of_word words.ChooseLeafFirstN size s = choose_part Firstn (not (int_eq s.second (pos 0))) size s
part_of_word words.ChooseLeafIndep size s = choose_part Indep true size s
part_of_word _ size s = other_step s.word s.first

-- a step of the cluster, for a pool of a size, as one of the map
unfoldable pub imported_step : ℕ → Step → StepPart
imported_step size s = part_of_word s.word size s

-- a step chooses as many items as the size less as many or more, which are none
unfoldable pub is_idle : ℕ → Step → Bool
is_idle size s = chooses s.word && int_lt s.first (pos 0) && int_le (count_for size s.first) (pos 0)

-- a step before the next emit takes
unfoldable pub takes_ahead : List Step → Bool
takes_ahead [] = false
takes_ahead (s ∷ rest) = not (emits s.word) && (is_take s.word || takes_ahead rest)

-- a step chooses nothing, and none takes anew before the next emit
abbrev pub leaves_nothing : ℕ → Step → List Step → Bool
leaves_nothing size s rest = is_idle size s && not (takes_ahead rest)

-- a step before the next emit does, so that its block gives nothing
unfoldable pub idle_ahead : ℕ → List Step → Bool
idle_ahead size [] = false
idle_ahead size (s ∷ rest) = not (emits s.word) && (leaves_nothing size s rest || idle_ahead size rest)

-- whether the block behind a step gives nothing, where that of the step gives nothing or not
unfoldable pub idle_behind : ℕ → Bool → Step → List Step → Bool
idle_behind size idle s rest = if emits s.word then idle_ahead size rest else idle

-- some step takes, chooses or gives out in a block that gives anything
unfoldable pub lives : ℕ → Bool → List Step → Bool
lives size idle [] = false
lives size idle (s ∷ rest) =
    (not (is_setting s.word) && not idle) || lives size (idle_behind size idle s rest) rest

-- a step stays where its block gives anything; what it sets holds for the blocks behind it too
unfoldable pub keeps : ℕ → Bool → Step → List Step → Bool
keeps size idle s rest = if is_setting s.word then lives size idle rest else not idle

-- the steps that stay from one on, where it is told whether its block gives nothing
unfoldable pub kept_steps : ℕ → Bool → List Step → List StepPart
kept_steps size idle [] = []
kept_steps size idle (s ∷ rest) =
    cons_option (if keeps size idle s rest then Some (imported_step size s) else None)
    (kept_steps size (idle_behind size idle s rest) rest)
