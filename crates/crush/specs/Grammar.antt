-- Which lists of steps are rules: the limits, the grammar, and the buckets that they take (CRUSH paper, SC 2006,
-- section 3.2; Ceph, crush.h). The grammar is narrower than Ceph's.
use Rattle.std.specs.Prelude.{Bool, true, false, IsTrue, ◌&&◌, nat_le, nat_lt, ◌-◌, ◌==◌, not, slice_get, take, List, [], ◌∷◌, length, if◌then◌else◌, Option, Some, is_some}
use Rattle.std.specs.List.{list_all, slice_split}
use Rattle.std.specs.Option.{option_map_or}
use Rattle.buckets.specs.declared.bucket.Bucket.{Bucket}
use Rattle.crush.specs.declared.step.Choose.{Choose}
use Rattle.crush.specs.declared.step.Mode.{Mode}
use Rattle.crush.specs.declared.step.Mode.TheVariants.{Firstn, Indep}
use Rattle.crush.specs.declared.step.RuleKind.{RuleKind}
use Rattle.crush.specs.declared.step.RuleKind.TheVariants.{Replicated, Erasure}
use Rattle.crush.specs.declared.step.Step.{Step}
use Rattle.crush.specs.declared.step.Step.TheVariants as step
use Rattle.refusal.specs.declared.refused.Refusal.{Refusal}
use Rattle.refusal.specs.declared.refused.Refusal.TheVariants.{BadLimit, BadRule}
use Rattle.refusal.specs.Outcomes.{refused_unless}
use Rattle.crush.specs.Forest.{bucket_at}
use Rattle.crush.specs.Limits.{max_steps, max_count, max_tries, max_vary, max_stable}
use Rattle.buckets.specs.Limits.{max_level, is_within}
use Rattle.buckets.specs.Buckets.{is_bucket_id}

-- a step within the limits: it takes an id that a bucket may have, chooses items, no more than the most, of a type up
-- to the highest, or sets tries, no more than the most, or how leaves are sought
abbrev pub step_limits_ok : Step → Bool
step_limits_ok (step.Take bucket) = is_bucket_id bucket
step_limits_ok (step.Choose c) = nat_le c.count max_count && nat_le c.level max_level
step_limits_ok (step.SetChooseTries n) = is_within 1 max_tries n
step_limits_ok (step.SetChooseleafTries n) = is_within 1 max_tries n
step_limits_ok (step.SetChooseleafVaryR n) = nat_le n max_vary
step_limits_ok (step.SetChooseleafStable n) = nat_le n max_stable
step_limits_ok step.Emit = true

-- a rule within the limits: steps, no more than the most
abbrev pub rule_limits_ok : List Step → Bool
rule_limits_ok steps = is_within 1 max_steps (length steps) && list_all step_limits_ok steps

-- a replicated rule packs what it chooses, an erasure rule keeps positions
abbrev pub serves : RuleKind → Mode → Bool
serves Replicated Firstn = true
serves Replicated Indep = false
serves Erasure Firstn = false
serves Erasure Indep = true

-- the last choice of a block ends at devices: a leaf below each bucket, or devices themselves
abbrev pub is_last : RuleKind → Choose → Bool
is_last kind c = serves kind c.mode && (if c.to_leaf then nat_lt 0 c.level else c.level == 0)

-- an earlier choice of a block ends at buckets, of a type above that of the next choice
abbrev pub is_earlier : RuleKind → Choose → Choose → Bool
is_earlier kind c next = serves kind c.mode && not c.to_leaf && nat_lt next.level c.level

-- a block without its emit: it takes a bucket and makes one to three choices
abbrev pub is_block : RuleKind → List Step → Bool
is_block kind (step.Take _ ∷ step.Choose a ∷ []) = is_last kind a
is_block kind (step.Take _ ∷ step.Choose a ∷ step.Choose b ∷ []) = is_earlier kind a b && is_last kind b
is_block kind (step.Take _ ∷ step.Choose a ∷ step.Choose b ∷ step.Choose c ∷ []) =
    is_earlier kind a b && is_earlier kind b c && is_last kind c
is_block kind _ = false

-- whether a step sets how a choose step tries
abbrev pub sets_tries : Step → Bool
sets_tries (step.SetChooseTries _) = true
sets_tries (step.SetChooseleafTries _) = true
sets_tries (step.SetChooseleafVaryR _) = true
sets_tries (step.SetChooseleafStable _) = true
sets_tries (step.Take _) = false
sets_tries (step.Choose _) = false
sets_tries step.Emit = false

-- a block without its emit, after any number of steps that set tries
unfoldable pub is_piece : RuleKind → List Step → Bool
is_piece kind [] = false
is_piece kind (s ∷ rest) = if sets_tries s then is_piece kind rest else is_block kind (s ∷ rest)

-- whether a step emits
abbrev pub is_emit : Step → Bool
is_emit (step.SetChooseTries _) = false
is_emit (step.SetChooseleafTries _) = false
is_emit (step.SetChooseleafVaryR _) = false
is_emit (step.SetChooseleafStable _) = false
is_emit (step.Take _) = false
is_emit (step.Choose _) = false
is_emit step.Emit = true

-- blocks between emits, steps of tries before each
unfoldable pub are_blocks : RuleKind → List Step → Bool
are_blocks kind steps = list_all (is_piece kind) (slice_split is_emit steps)

-- the last step, if any, is an emit
abbrev pub ends : List Step → Bool
ends steps = option_map_or is_emit (slice_get steps (length steps - 1)) false

-- a rule: one or more blocks, each ended by an emit, with steps that set tries before its take or none
abbrev pub is_rule : RuleKind → List Step → Bool
is_rule kind steps = ends steps && are_blocks kind (take (length steps - 1) steps)

-- a step takes no bucket that the forest has not
abbrev pub takes_known : List Bucket → Step → Bool
takes_known buckets (step.Take bucket) = is_some (bucket_at buckets bucket)
takes_known buckets (step.SetChooseTries _) = true
takes_known buckets (step.SetChooseleafTries _) = true
takes_known buckets (step.SetChooseleafVaryR _) = true
takes_known buckets (step.SetChooseleafStable _) = true
takes_known buckets (step.Choose _) = true
takes_known buckets step.Emit = true

-- a rule over a forest
abbrev pub rule_ok : RuleKind → List Step → List Bucket → Bool
rule_ok kind steps buckets = is_rule kind steps && list_all (takes_known buckets) steps

-- why a list of steps is no rule over a forest: a limit first
abbrev pub rule_fault : RuleKind → List Step → List Bucket → Option Refusal
rule_fault kind steps buckets =
    if rule_limits_ok steps then refused_unless (rule_ok kind steps buckets) BadRule else Some BadLimit

-- what each rule is, over whatever forest
pub record IsLawfulRule (kind : RuleKind) (steps : List Step) : Type 0 where
  pub limits : IsTrue (rule_limits_ok steps)
  pub grammar : IsTrue (is_rule kind steps)
