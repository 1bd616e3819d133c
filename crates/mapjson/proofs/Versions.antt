-- The version of a map's own parts.
use Rattle.std.proofs.Common.{◌≡◌, Bool, true, false, cond, not, ◌&&◌, List, [], ◌∷◌, map, Some, pos, refl}
use Rattle.std.specs.List.{list_any}
use Rattle.std.specs.Ordering.{int_eq}
use Rattle.crush.specs.declared.step.Step.{Step}
use Rattle.crush.specs.declared.step.Step.TheVariants as step
use Rattle.crush.specs.Grammar as grammar
use Rattle.maptypes.specs.declared.rules.NumberedRule.{NumberedRule}
use Rattle.osdmap.specs.Maps.{ClusterMap}
use Rattle.osdmap.specs.PartsOf.{step_part, rule_part, parts_of}
use Rattle.partjson.specs.StatedMaps.{states_tries, in_its_version}

-- a part sets tries where its step does
step_same : (s : Step) → states_tries (step_part s) ≡ grammar.sets_tries s
step_same (step.SetChooseTries n) = refl
step_same (step.SetChooseleafTries n) = refl
step_same (step.SetChooseleafVaryR n) = refl
step_same (step.SetChooseleafStable n) = refl
step_same (step.Take id) = refl
step_same (step.Choose c) = refl
step_same step.Emit = refl

-- the parts of steps set tries where the steps do
steps_same : (steps : List Step) → list_any states_tries (map step_part steps) ≡ list_any grammar.sets_tries steps
steps_same [] = refl
steps_same (s ∷ steps) = rw (step_same s, steps_same steps) refl

-- the parts of rules set tries where the rules do
rules_same : (rules : List NumberedRule) → list_any (λ r. list_any states_tries r.steps) (map rule_part rules) ≡ list_any (λ r. list_any grammar.sets_tries r.rule.steps) rules
rules_same [] = refl
rules_same (r ∷ rules) = rw (steps_same r.rule.steps, rules_same rules) refl

-- so parts that are written in version 1 set none
one_version : (set : Bool) → (not (int_eq (cond set (pos 2) (pos 1)) (pos 2)) && set) ≡ false
one_version true = refl
one_version false = refl

-- a map's own parts set tries in version 2 alone
pub own_version : (m : ClusterMap) → in_its_version (parts_of m) ≡ Some (parts_of m)
unfolding parts_of
own_version m = rw (rules_same m.rules, one_version (list_any (λ r. list_any grammar.sets_tries r.rule.steps) m.rules)) refl
