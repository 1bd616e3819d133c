-- CRUSH maps: a forest and the rules over it (Ceph, CrushWrapper.h), and the one that parts state.
use Rattle.std.specs.Prelude.{◌≡◌, ℕ, ◌==◌, ◌≤◌, ◌&&◌, Bool, true, not, nat_le, ℤ, nat_abs, List, length, map, Option, Some, None, if◌then◌else◌}
use Rattle.std.specs.List.{list_all, find}
use Rattle.std.specs.List.Sorted.{IsPermutation}
use Rattle.std.specs.Option.{option_map}
use Rattle.buckets.specs.declared.bucket.Bucket.{Bucket}
use Rattle.crush.specs.Forest.{bucket_at}
use Rattle.crush.specs.Rules.{Recipe}
use Rattle.crush.specs.WellFormed.{forest_ok, IsForest, IsDescending}
use Rattle.crush.specs.Grammar.{rule_limits_ok, rule_ok}
use Rattle.refusal.specs.declared.refused.Refusal.{Refusal}
use Rattle.refusal.specs.declared.refused.Refusal.TheVariants.{BadLimit, BadForest, BadRule}
use Rattle.refusal.specs.Outcomes.{refused_unless}
use Rattle.keylist.specs.Keys.{is_distinct}
use Rattle.keylist.specs.Order.{IsRising, Rises}
use Rattle.mapparts.specs.declared.parts.BucketPart.{BucketPart}
use Rattle.mapparts.specs.declared.parts.RulePart.{RulePart}
use Rattle.maptypes.specs.declared.rules.NumberedRule.{NumberedRule}
use Rattle.mapparts.specs.Limits.{max_rules, max_rule_id}
use Rattle.mapparts.specs.Parts.{has_between}
use Rattle.maptypes.specs.Values.{bucket_of, step_of, rule_of}

-- what callers see of a CRUSH map: its buckets by id downwards, and its rules by id upwards
pub record CrushFacts : Type 0 where
  pub buckets : List Bucket
  pub rules : List NumberedRule

-- the rule of an id
abbrev pub rule_at : List NumberedRule → ℕ → Option Recipe
rule_at rules id = option_map (λ r. r.rule) (find (λ r. r.id == id) rules)

-- a rule of an id of at most 255, within the limits, and over a forest
unfoldable pub is_rule_over : List Bucket → NumberedRule → Bool
is_rule_over buckets r =
    nat_le r.id max_rule_id && rule_limits_ok r.rule.steps && rule_ok r.rule.kind r.rule.steps buckets

-- what holds in every CRUSH map: a forest, and 1 to 256 rules over it by id upwards
pub record IsCrushMap (c : CrushFacts) : Type 0 where
  pub forest : IsForest c.buckets
  pub some_rules : 1 ≤ length c.rules
  pub few_rules : length c.rules ≤ max_rules
  pub rules_rise : IsRising (λ r. r.id) c.rules
  pub rules_over : list_all (is_rule_over c.buckets) c.rules ≡ true

-- ---- the one of a forest and rules

-- 1 to 256 rules, each of an id of at most 255
unfoldable pub rule_ids_fit : List NumberedRule → Bool
rule_ids_fit rules = has_between 1 max_rules rules && list_all (λ r. nat_le r.id max_rule_id) rules

-- no id twice, and each rule takes buckets of the forest
unfoldable pub rules_over : List Bucket → List NumberedRule → Bool
rules_over buckets rules =
    is_distinct (map (λ r. r.id) rules) && list_all (λ r. rule_ok r.rule.kind r.rule.steps buckets) rules

-- what is wrong with rules for a forest: how many there are or an id, else an id twice or a bucket that is not there
abbrev pub rules_fault : List Bucket → List NumberedRule → Option Refusal
rules_fault buckets rules =
    if not (rule_ids_fit rules) then Some BadLimit else refused_unless (rules_over buckets rules) BadRule

-- the CRUSH map has this forest, and these rules by id upwards
pub record IsCrushWith (buckets : List Bucket) (rules : List NumberedRule) (c : CrushFacts) : Type 0 where
  pub forest : c.buckets ≡ buckets
  pub ruled : Rises (λ r. r.id) rules c.rules

-- ---- the one that parts state

-- the same buckets by id downwards, where each id leads to the bucket that it leads to among those given
pub record IsForestOf (given sorted : List Bucket) : Type 0 where
  pub same : IsPermutation given sorted
  pub falling : IsDescending sorted
  pub found : (id : ℤ) → bucket_at sorted id ≡ bucket_at given id

-- a rule over a forest
abbrev pub is_lawful : List Bucket → RulePart → Bool
is_lawful buckets r = rule_ok r.kind (map step_of r.steps) buckets

-- no id twice, and each rule is one of the grammar that takes buckets of the forest
abbrev pub rules_fit : List Bucket → List RulePart → Bool
rules_fit buckets rules = is_distinct (map (λ r. nat_abs r.id) rules) && list_all (is_lawful buckets) rules

-- what is wrong with buckets and rules within the limits: they are no forest over max_osd devices, else no rules over
-- it
abbrev pub crush_fault : List BucketPart → List RulePart → ℕ → Option Refusal
crush_fault buckets rules max_osd =
    if not (forest_ok (map bucket_of buckets) max_osd) then Some BadForest
    else if not (rules_fit (map bucket_of buckets) rules) then Some BadRule
    else None

-- the CRUSH map has what the parts state
pub record IsCrushOf (bs : List BucketPart) (rs : List RulePart) (c : CrushFacts) : Type 0 where
  pub buckets : IsForestOf (map bucket_of bs) c.buckets
  pub rules : Rises (λ r. r.id) (map rule_of rs) c.rules
