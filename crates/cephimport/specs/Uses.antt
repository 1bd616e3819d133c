-- Which rules pools use, and what these take.
use Rattle.std.specs.Prelude.{ℕ, ◌==◌, ℤ, Bool, true, false, not, ◌&&◌, ◌||◌, List, length}
use Rattle.std.specs.Ordering.{int_eq}
use Rattle.std.specs.List.{list_any, enumerate_from}
use Rattle.std.specs.Option.{option_map_or}
use Rattle.cephmap.specs.declared.map.CephMap.{CephMap}
use Rattle.cephmap.specs.declared.pool.Pool.{Pool}
use Rattle.cephmap.specs.declared.bucket.Slot.{Slot}
use Rattle.cephmap.specs.declared.rule.Rule.{Rule}
use Rattle.cephmap.specs.declared.rule.Step.{Step}
use Rattle.cephmap.specs.declared.rule.StepWord.{StepWord}
use Rattle.cephmap.specs.declared.rule.StepWord.TheVariants as words

-- some pool has a rule
abbrev pub any_has_rule : List Pool → ℕ → Bool
any_has_rule pools rule = list_any (λ p. p.rule == rule) pools

-- there are pools
abbrev pub has_pools : List Pool → Bool
has_pools pools = not (length pools == 0)

-- the rules that pools use; where there is no pool, all rules
unfoldable pub is_used : List Pool → ℕ → Bool
is_used pools rule = not (has_pools pools) || any_has_rule pools rule

-- a step of this word takes
abbrev pub is_take : StepWord → Bool
is_take words.Take = true
is_take _ = false

-- a step takes an item
abbrev pub takes : Step → ℤ → Bool
takes s id = is_take s.word && int_eq s.first id

-- some step of a rule takes an item
abbrev pub rule_takes : List Step → ℤ → Bool
rule_takes steps id = list_any (λ s. takes s id) steps

-- the rule of a slot takes an item
abbrev pub slot_takes : Slot Rule → ℤ → Bool
slot_takes slot id = option_map_or (λ r. rule_takes r.steps id) slot.holds false

-- some rule that is used takes an item
abbrev pub any_takes : List Pool → List (Slot Rule) → ℤ → Bool
any_takes pools rules id = list_any (λ p. is_used pools p.0 && slot_takes p.1 id) (enumerate_from 0 rules)

-- what the rules take that are used
unfoldable pub is_taken : CephMap → ℤ → Bool
is_taken m id = any_takes m.pools m.crush.rules id
