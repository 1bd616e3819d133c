-- A forest and rules over it are a CRUSH map.
use Rattle.std.proofs.Common.{◌≡◌, ◌∙◌, ◌≤◌, nat_le, true, ◌&&◌, List, [], ◌∷◌, length, refl, arith}
use Rattle.std.specs.List.{All, list_all}
use Rattle.std.proofs.lemmas.Bool.Decides.{nat_tests}
use Rattle.std.proofs.lemmas.List.Elements.{All-head, All-tail}
use Rattle.std.proofs.lemmas.List.Sorted.{length_permutation}
use Rattle.buckets.specs.declared.bucket.Bucket.{Bucket}
use Rattle.crush.specs.WellFormed.{IsForest}
use Rattle.crush.specs.Grammar.{rule_limits_ok, rule_ok, IsLawfulRule}
use Rattle.keylist.specs.Order.{Rises}
use Rattle.keylist.proofs.Distinct.{list_all-moved}
use Rattle.keylist.proofs.Each.{all_both}
use Rattle.maptypes.specs.declared.rules.NumberedRule.{NumberedRule}
use Rattle.mapparts.specs.Parts.{has_between}
use Rattle.maptypes.specs.CrushMaps.{is_rule_over, rule_ids_fit, rules_over, IsCrushMap}

-- each rule that is one is within the limits
limits_of : (rules : List NumberedRule) → All (λ r. IsLawfulRule r.rule.kind r.rule.steps) rules → list_all (λ r. rule_limits_ok r.rule.steps) rules ≡ true
limits_of [] lawful = refl
limits_of (r ∷ rules) lawful =
    let this = All-head (λ (r : NumberedRule). IsLawfulRule r.rule.kind r.rule.steps) r rules lawful in
    grind (arith, this.limits, limits_of rules (All-tail (λ (r : NumberedRule). IsLawfulRule r.rule.kind r.rule.steps) r rules lawful))

-- what the tests found of the ids
ids_fit : (rules : List NumberedRule) → rule_ids_fit rules ≡ true → list_all (λ r. nat_le r.id 255) rules ≡ true
unfolding rule_ids_fit
ids_fit rules h = grind arith

-- how many rules there are
counted : (rules sorted : List NumberedRule) → rule_ids_fit rules ≡ true → Rises (λ r. r.id) rules sorted → (1 ≤ length sorted) × (length sorted ≤ 256)
unfolding rule_ids_fit has_between
counted rules sorted h rises =
    let same = length_permutation _ _ rises.same in
    (grind (arith, nat_tests, same), grind (arith, nat_tests, same))

-- and of the buckets that they take
takes_fit : (buckets : List Bucket) (rules : List NumberedRule) → rules_over buckets rules ≡ true → list_all (λ r. rule_ok r.rule.kind r.rule.steps buckets) rules ≡ true
unfolding rules_over
takes_fit buckets rules h = grind arith

-- a rule's id and its steps are within the limits
numbered : (buckets : List Bucket) (r : NumberedRule) → nat_le r.id 255 ≡ true → rule_limits_ok r.rule.steps ≡ true → (nat_le r.id 255 && rule_limits_ok r.rule.steps) ≡ true
numbered buckets r id limits = rw (id, limits) refl

-- a rule within the limits that is right over some buckets is a rule over them
over : (buckets : List Bucket) (r : NumberedRule) → (nat_le r.id 255 && rule_limits_ok r.rule.steps) ≡ true → rule_ok r.rule.kind r.rule.steps buckets ≡ true → is_rule_over buckets r ≡ true
unfolding is_rule_over
over buckets r fits ok = grind (arith, fits, ok)

-- all of it
pub is_crush_with : (buckets : List Bucket) (rules sorted : List NumberedRule) → IsForest buckets → rule_ids_fit rules ≡ true → rules_over buckets rules ≡ true
    → All (λ r. IsLawfulRule r.rule.kind r.rule.steps) rules → Rises (λ r. r.id) rules sorted → IsCrushMap (record { buckets = buckets; rules = sorted })
is_crush_with buckets rules sorted forest fit good lawful rises =
    let both = all_both (λ r. nat_le r.id 255) (λ r. rule_limits_ok r.rule.steps) _ (numbered buckets) rules (ids_fit rules fit) (limits_of rules lawful) in
    record {
      forest = forest;
      some_rules = (counted rules sorted fit rises).0;
      few_rules = (counted rules sorted fit rises).1;
      rules_rise = rises.rising;
      rules_over = list_all-moved (is_rule_over buckets) rules sorted rises.same ∙ all_both _ (λ r. rule_ok r.rule.kind r.rule.steps buckets) (is_rule_over buckets) (over buckets) rules both (takes_fit buckets rules good);
    }
