-- The forest and the rules that parts state are a CRUSH map, and are refused as the parts are.
use Rattle.std.proofs.Common.{◌≡◌, ◌∙◌, ℕ, ◌≤◌, true, List, map, length, None, Some, nat_abs, refl, sym, arith}
use Rattle.std.specs.List.{list_all}
use Rattle.std.proofs.lemmas.Bool.Decides.{nat_tests}
use Rattle.std.proofs.lemmas.List.{length-map}
use Rattle.std.proofs.lemmas.List.Sorted.{length_permutation}
use Rattle.std.proofs.lemmas.List.Folds.{list_all-map}
use Rattle.buckets.specs.declared.bucket.Bucket.{Bucket}
use Rattle.crush.specs.declared.step.Step.{Step}
use Rattle.crush.specs.declared.step.Step.TheVariants as step
use Rattle.crush.specs.WellFormed.{forest_ok, IsForest}
use Rattle.crush.specs.Grammar.{takes_known}
use Rattle.refusal.specs.declared.refused.Refusal.{Refusal}
use Rattle.refusal.specs.declared.refused.Refusal.TheVariants.{BadForest, BadRule}
use Rattle.refusal.specs.Outcomes.{refused_unless}
use Rattle.keylist.specs.Keys.{is_distinct}
use Rattle.keylist.specs.Order.{Rises}
use Rattle.keylist.proofs.Distinct.{list_all-moved}
use Rattle.keylist.proofs.Each.{list_all-agree, all_both}
use Rattle.keylist.proofs.Tests.{and_second}
use Rattle.mapparts.specs.declared.parts.BucketPart.{BucketPart}
use Rattle.mapparts.specs.declared.parts.RulePart.{RulePart}
use Rattle.maptypes.specs.declared.rules.NumberedRule.{NumberedRule}
use Rattle.mapparts.specs.Parts.{has_between, rule_fits}
use Rattle.maptypes.specs.Values.{bucket_of, rule_of}
use Rattle.maptypes.specs.CrushMaps.{IsForestOf, is_rule_over, is_lawful, rules_fit, crush_fault, IsCrushMap}
use Rattle.mapparts.proofs.Within.{natural_between}
use Rattle.maptypes.proofs.Narrowed.{rule_id_fits, rule_limits}
use Rattle.maptypes.proofs.Judged.{passed, refused}

-- a step takes a bucket of the forest exactly where it takes one of the buckets given
takes_same : (given sorted : List Bucket) → IsForestOf given sorted → (s : Step) → takes_known sorted s ≡ takes_known given s
takes_same given sorted forest (step.Take id) = rw (forest.found id) refl
takes_same given sorted forest (step.SetChooseTries n) = refl
takes_same given sorted forest (step.SetChooseleafTries n) = refl
takes_same given sorted forest (step.SetChooseleafVaryR n) = refl
takes_same given sorted forest (step.SetChooseleafStable n) = refl
takes_same given sorted forest (step.Choose c) = refl
takes_same given sorted forest step.Emit = refl

-- a rule is lawful over the forest exactly where it is over the buckets given
lawful_same : (given sorted : List Bucket) → IsForestOf given sorted → (r : RulePart) → is_lawful sorted r ≡ is_lawful given r
lawful_same given sorted forest r = rw (list_all-agree (takes_known sorted) (takes_known given) (takes_same given sorted forest)) refl

-- the rules are judged alike over the buckets in either order
pub rules_same : (given sorted : List Bucket) (rules : List RulePart) → IsForestOf given sorted → rules_fit sorted rules ≡ rules_fit given rules
rules_same given sorted rules forest = rw (list_all-agree (is_lawful sorted) (is_lawful given) (lawful_same given sorted forest)) refl

-- ---- what the fault is

-- no forest
pub fault_forest : (buckets : List BucketPart) (rules : List RulePart) (max_osd : ℕ) (e : Refusal)
    → refused_unless (forest_ok (map bucket_of buckets) max_osd) BadForest ≡ Some e → crush_fault buckets rules max_osd ≡ Some e
fault_forest buckets rules max_osd e h =
    let wrong = refused (forest_ok (map bucket_of buckets) max_osd) BadForest e h in
    rw wrong (rw wrong at h)

-- no rules over it
pub fault_rules : (buckets : List BucketPart) (rules : List RulePart) (max_osd : ℕ) (forest : List Bucket) (e : Refusal)
    → refused_unless (forest_ok (map bucket_of buckets) max_osd) BadForest ≡ None → IsForestOf (map bucket_of buckets) forest
    → refused_unless (rules_fit forest rules) BadRule ≡ Some e → crush_fault buckets rules max_osd ≡ Some e
fault_rules buckets rules max_osd forest e grown is h =
    let fails = refused (rules_fit forest rules) BadRule e h in
    let wrong = sym (rules_same (map bucket_of buckets) forest rules is) ∙ fails in
    rw (passed _ _ grown, wrong) (rw fails at h)

-- neither
pub no_fault : (buckets : List BucketPart) (rules : List RulePart) (max_osd : ℕ) (forest : List Bucket)
    → refused_unless (forest_ok (map bucket_of buckets) max_osd) BadForest ≡ None → IsForestOf (map bucket_of buckets) forest
    → refused_unless (rules_fit forest rules) BadRule ≡ None → crush_fault buckets rules max_osd ≡ None
no_fault buckets rules max_osd forest grown is lawful =
    let good = sym (rules_same (map bucket_of buckets) forest rules is) ∙ passed _ _ lawful in
    rw (passed _ _ grown, good) refl

-- ---- what holds

-- a rule within its limits that is lawful over some buckets is a rule over them
rule_over : (buckets : List Bucket) (r : RulePart) → rule_fits r ≡ true → is_lawful buckets r ≡ true → is_rule_over buckets (rule_of r) ≡ true
unfolding is_rule_over
rule_over buckets r fits lawful =
    let id = (natural_between 0 255 r.id (rule_id_fits r fits)).most in
    grind (arith, nat_tests, id, rule_limits r fits, lawful)

-- so are all rules of a list, in order
rules_over : (buckets : List Bucket) (parts : List RulePart) (rules : List NumberedRule) → list_all rule_fits parts ≡ true
    → rules_fit buckets parts ≡ true → Rises (λ r. r.id) (map rule_of parts) rules → list_all (is_rule_over buckets) rules ≡ true
rules_over buckets parts rules fit good rises =
    let lawful = and_second (is_distinct (map (λ (r : RulePart). nat_abs r.id) parts)) (list_all (is_lawful buckets) parts) good in
    list_all-moved (is_rule_over buckets) (map rule_of parts) rules rises.same ∙ list_all-map (is_rule_over buckets) rule_of parts
    ∙ all_both rule_fits (is_lawful buckets) (λ r. is_rule_over buckets (rule_of r)) (rule_over buckets) parts fit lawful

-- how many rules there are
counted : (parts : List RulePart) (rules : List NumberedRule) → has_between 1 256 parts ≡ true → Rises (λ r. r.id) (map rule_of parts) rules → (1 ≤ length rules) × (length rules ≤ 256)
unfolding has_between
counted parts rules few rises =
    let made = length_permutation _ _ rises.same ∙ length-map parts rule_of in
    (grind (arith, nat_tests, made), grind (arith, nat_tests, made))

-- all of it
pub is_crush_map : (buckets : List Bucket) (parts : List RulePart) (rules : List NumberedRule) → IsForest buckets → list_all rule_fits parts ≡ true → has_between 1 256 parts ≡ true
    → rules_fit buckets parts ≡ true → Rises (λ r. r.id) (map rule_of parts) rules → IsCrushMap (record { buckets = buckets; rules = rules })
is_crush_map buckets parts rules forest fit few good rises = record {
  forest = forest;
  some_rules = (counted parts rules few rises).0;
  few_rules = (counted parts rules few rises).1;
  rules_rise = rises.rising;
  rules_over = rules_over buckets parts rules fit good rises;
}
