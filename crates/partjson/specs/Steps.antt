-- Steps by their word and the numbers behind it: what a step's list states, value by value.
use Rattle.std.specs.Prelude.{ℕ, ℤ, Bool, true, false, List, [], ◌∷◌, codes, Option, Some, None, option_map, option_and_then, if◌then◌else◌}
use Rattle.std.specs.Str.{bytes_eq}
use Rattle.serde_json.specs.Data.{Data}
use Rattle.serde_json.specs.Find.{as_str}
use Rattle.crush.specs.declared.step.Mode.{Mode}
use Rattle.crush.specs.declared.step.Mode.TheVariants.{Firstn, Indep}
use Rattle.mapparts.specs.declared.parts.StepPart.{StepPart}
use Rattle.mapparts.specs.declared.parts.StepPart.TheVariants as part
use Rattle.jsonstream.specs.Json.{◌>>=◌}
use Rattle.partjson.specs.declared.rules.StepWord.{StepWord}
use Rattle.partjson.specs.declared.rules.StepWord.TheVariants.{Take, Choose, Emit, Tries, LeafTries, LeafVary, LeafStable}

-- the word of a step; that of a choose step has its mode, and whether a device is taken below
abbrev pub step_word : List ℕ → Option StepWord
step_word word =
    if bytes_eq word (codes "take") then Some Take
    else if bytes_eq word (codes "choose_firstn") then Some (Choose Firstn false)
    else if bytes_eq word (codes "choose_indep") then Some (Choose Indep false)
    else if bytes_eq word (codes "chooseleaf_firstn") then Some (Choose Firstn true)
    else if bytes_eq word (codes "chooseleaf_indep") then Some (Choose Indep true)
    else if bytes_eq word (codes "emit") then Some Emit
    else if bytes_eq word (codes "set_choose_tries") then Some Tries
    else if bytes_eq word (codes "set_chooseleaf_tries") then Some LeafTries
    else if bytes_eq word (codes "set_chooseleaf_vary_r") then Some LeafVary
    else if bytes_eq word (codes "set_chooseleaf_stable") then Some LeafStable
    else None

-- the word of a step, where a value is one
abbrev pub step_word_of : Data → Option StepWord
step_word_of d = as_str d >>= step_word

-- one number, and no other
abbrev pub one_number : List ℤ → Option ℤ
one_number [] = None
one_number (n ∷ []) = Some n
one_number (n ∷ m ∷ ns) = None

-- no number
abbrev pub emit_with : List ℤ → Option StepPart
emit_with [] = Some part.Emit
emit_with (n ∷ ns) = None

-- a count and a type, and no other number
abbrev pub choose_with : Mode → Bool → List ℤ → Option StepPart
choose_with mode to_leaf [] = None
choose_with mode to_leaf (count ∷ []) = None
choose_with mode to_leaf (count ∷ level ∷ []) =
    Some (part.Choose (record { mode = mode; to_leaf = to_leaf; count = count; level = level }))
choose_with mode to_leaf (count ∷ level ∷ n ∷ ns) = None

-- the step of a word and the numbers behind it
abbrev pub step_with : StepWord → List ℤ → Option StepPart
step_with Take ns = option_map (λ id. part.Take id) (one_number ns)
step_with (Choose mode to_leaf) ns = choose_with mode to_leaf ns
step_with Emit ns = emit_with ns
step_with Tries ns = option_map (λ n. part.SetChooseTries n) (one_number ns)
step_with LeafTries ns = option_map (λ n. part.SetChooseleafTries n) (one_number ns)
step_with LeafVary ns = option_map (λ n. part.SetChooseleafVaryR n) (one_number ns)
step_with LeafStable ns = option_map (λ n. part.SetChooseleafStable n) (one_number ns)

-- the same, where there is a word, and all that is behind it are numbers
abbrev pub step_if : Option StepWord → Option (List ℤ) → Option StepPart
step_if word numbers = option_and_then (λ w. option_and_then (step_with w) numbers) word
