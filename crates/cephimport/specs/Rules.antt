-- Rules as a map states them.
use Rattle.std.specs.Prelude.{ℕ, ◌==◌, pos, Bool, List, [], ◌++◌, length, Option, Some, None, if◌then◌else◌}
use Rattle.std.specs.List.{find, filter_map, enumerate_from}
use Rattle.std.specs.Option.{option_map, option_map_or}
use Rattle.crush.specs.declared.step.RuleKind.{RuleKind}
use Rattle.crush.specs.declared.step.RuleKind.TheVariants.{Replicated, Erasure}
use Rattle.cephmap.specs.declared.map.CephMap.{CephMap}
use Rattle.cephmap.specs.declared.pool.Pool.{Pool}
use Rattle.cephmap.specs.declared.bucket.Slot.{Slot}
use Rattle.cephmap.specs.declared.rule.Rule.{Rule}
use Rattle.cephmap.specs.declared.rule.Step.{Step}
use Rattle.cephmap.specs.declared.crush.Tunables.{Tunables}
use Rattle.mapparts.specs.declared.parts.RulePart.{RulePart}
use Rattle.mapparts.specs.declared.parts.StepPart.{StepPart}
use Rattle.cephimport.specs.Uses.{is_used}
use Rattle.cephimport.specs.Steps.{idle_ahead, kept_steps}
use Rattle.cephimport.specs.Tuned.{front}

-- what a rule is for; a map with one of another kind in use stays out
abbrev pub rule_use : ℕ → RuleKind
rule_use kind = if kind == 3 then Erasure else Replicated

-- the size of the first pool that has a rule; 0 where none has it
unfoldable pub size_of : List Pool → ℕ → ℕ
size_of pools rule = option_map_or (λ p. p.size) (find (λ p. p.rule == rule) pools) 0

-- those that stand for tunables, and those that stay; none where none stay
unfoldable pub rule_steps : Tunables → ℕ → List Step → List StepPart
rule_steps t size steps =
    if length (kept_steps size (idle_ahead size steps) steps) == 0 then []
    else front t steps ++ kept_steps size (idle_ahead size steps) steps

-- a rule of the cluster, which has this id, as one of the map
unfoldable pub imported_rule : CephMap → ℕ → Rule → RulePart
imported_rule m id r = record {
  id = pos id;
  kind = rule_use r.kind;
  steps = rule_steps m.crush.tunables (size_of m.pools id) r.steps;
}

-- the rule of a slot, where it holds one that is used
unfoldable pub slot_rule : CephMap → ℕ → Slot Rule → Option RulePart
slot_rule m id slot = if is_used m.pools id then option_map (imported_rule m id) slot.holds else None

-- the rules of all slots that are used, each by the number of its slot
abbrev pub rules_in : CephMap → List (Slot Rule) → List RulePart
rules_in m slots = filter_map (λ p. slot_rule m p.0 p.1) (enumerate_from 0 slots)

-- the rules that are used
unfoldable pub rule_parts : CephMap → List RulePart
rule_parts m = rules_in m m.crush.rules
