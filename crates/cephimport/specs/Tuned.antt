-- The tunables of a CRUSH map, of which a map has none: what rules look at is set by steps at their front, where it is
-- not jewel's.
use Rattle.std.specs.Prelude.{ℕ, ◌+◌, ◌==◌, pos, Bool, true, false, not, ◌&&◌, ◌||◌, nat_lt, nat_le, List, [], ◌∷◌, ◌++◌, Option, Some, None, if◌then◌else◌}
use Rattle.std.specs.List.{list_any}
use Rattle.std.specs.Option.{option_to_list}
use Rattle.crush.specs.Limits.{max_tries, max_vary, max_stable}
use Rattle.cephmap.specs.declared.crush.Tunables.{Tunables}
use Rattle.cephmap.specs.declared.rule.Step.{Step}
use Rattle.cephmap.specs.declared.rule.StepWord.{StepWord}
use Rattle.cephmap.specs.declared.rule.StepWord.TheVariants as words
use Rattle.mapparts.specs.declared.parts.StepPart.{StepPart}
use Rattle.mapparts.specs.declared.parts.StepPart.TheVariants.{SetChooseTries, SetChooseleafVaryR, SetChooseleafStable}
use Rattle.cephimport.specs.declared.tuned.Tuned.{Tuned}
use Rattle.cephimport.specs.declared.tuned.Tuned.TheVariants.{Tries, VaryR, Stable}
use Rattle.cephimport.specs.Uses.{is_take}

-- a tunable of the cluster
abbrev pub own : Tuned → Tunables → ℕ
own Tries t = t.choose_total_tries
own VaryR t = t.chooseleaf_vary_r
own Stable t = t.chooseleaf_stable

-- in jewel
abbrev pub usual : Tuned → ℕ
usual Tries = 50
usual VaryR = 1
usual Stable = 1

-- a step of this word sets the tries of choices
abbrev pub sets_choose_tries : StepWord → Bool
sets_choose_tries words.SetChooseTries = true
sets_choose_tries _ = false

-- a step of this word sets `chooseleaf_vary_r`
abbrev pub sets_vary_r : StepWord → Bool
sets_vary_r words.SetChooseLeafVaryR = true
sets_vary_r _ = false

-- a step of this word sets `chooseleaf_stable`
abbrev pub sets_stable : StepWord → Bool
sets_stable words.SetChooseLeafStable = true
sets_stable _ = false

-- a step of this word sets a tunable
abbrev pub sets : Tuned → StepWord → Bool
sets Tries word = sets_choose_tries word
sets VaryR word = sets_vary_r word
sets Stable word = sets_stable word

-- a step of tries counts the first try too
abbrev pub set_by : Tuned → ℕ → StepPart
set_by Tries n = SetChooseTries (pos (n + 1))
set_by VaryR n = SetChooseleafVaryR (pos n)
set_by Stable n = SetChooseleafStable (pos n)

-- a step of this word chooses leaves, first n
abbrev pub is_leaf_word : StepWord → Bool
is_leaf_word words.ChooseLeafFirstN = true
is_leaf_word _ = false

-- a step chooses leaves, first n
abbrev pub is_leaf_choice : Step → Bool
is_leaf_choice s = is_leaf_word s.word

-- the steps of a rule look at it: at how leaves are sought where one chooses leaves, first n
abbrev pub looks : Tuned → List Step → Bool
looks Tries steps = true
looks VaryR steps = list_any is_leaf_choice steps
looks Stable steps = list_any is_leaf_choice steps

-- they set it before they take anything
unfoldable pub sets_first : Tuned → List Step → Bool
sets_first tuned [] = false
sets_first tuned (s ∷ rest) = not (is_take s.word) && (sets tuned s.word || sets_first tuned rest)

-- the step that sets a tunable at the front of a rule, where that is not jewel's and the rule goes by it
unfoldable pub front_step : Tuned → Tunables → List Step → Option StepPart
front_step tuned t steps =
    if own tuned t == usual tuned || sets_first tuned steps || not (looks tuned steps) then None
    else Some (set_by tuned (own tuned t))

-- the steps that set tunables at the front of a rule
unfoldable pub front : Tunables → List Step → List StepPart
front t steps =
    option_to_list (front_step Tries t steps) ++ option_to_list (front_step VaryR t steps)
    ++ option_to_list (front_step Stable t steps)

-- all tunables are jewel's, but for those that steps set, and these are within what steps set
unfoldable pub are_settable : Tunables → Bool
are_settable t =
    t.choose_local_tries == 0 && t.choose_local_fallback_tries == 0 && t.chooseleaf_descend_once == 1
    && nat_lt t.choose_total_tries max_tries && nat_le t.chooseleaf_vary_r max_vary
    && nat_le t.chooseleaf_stable max_stable
