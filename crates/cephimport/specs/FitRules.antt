-- Which rules keep a map out.
use Rattle.std.specs.Prelude.{ℕ, ◌==◌, ℤ, pos, int_lt, Bool, true, false, not, ◌&&◌, ◌||◌, nat_le, List, length}
use Rattle.std.specs.List.{list_any, list_all, enumerate_from}
use Rattle.std.specs.Option.{option_map_or}
use Rattle.crush.specs.Limits.{max_steps}
use Rattle.cephmap.specs.declared.map.CephMap.{CephMap}
use Rattle.cephmap.specs.declared.pool.Pool.{Pool}
use Rattle.cephmap.specs.declared.bucket.Slot.{Slot}
use Rattle.cephmap.specs.declared.rule.Rule.{Rule}
use Rattle.cephmap.specs.declared.rule.Step.{Step}
use Rattle.cephmap.specs.declared.rule.StepWord.{StepWord}
use Rattle.cephmap.specs.declared.rule.StepWord.TheVariants as words
use Rattle.cephimport.specs.declared.fit_rules.RuleTest.{RuleTest}
use Rattle.cephimport.specs.declared.fit_rules.RuleTest.TheVariants.{Kind, Words, Length, Counts}
use Rattle.cephimport.specs.Uses.{any_has_rule, is_used}
use Rattle.cephimport.specs.Steps.{chooses}
use Rattle.cephimport.specs.Rules.{size_of}

-- a step of this word is known
abbrev pub is_known_word : StepWord → Bool
is_known_word words.Nothing = false
is_known_word words.SetChooseLocalTries = false
is_known_word words.SetChooseLocalFallbackTries = false
is_known_word _ = true

-- all steps of a rule are of words that are known
abbrev pub has_known_words : List Step → Bool
has_known_words steps = list_all (λ s. is_known_word s.word) steps

-- a step of a rule chooses by the size of its pool: its count is negative
abbrev pub has_negative : List Step → Bool
has_negative steps = list_any (λ s. chooses s.word && int_lt s.first (pos 0)) steps

-- a rule has no more steps than a map allows
abbrev pub has_few_steps : List Step → Bool
has_few_steps steps = nat_le (length steps) max_steps

-- all pools that have a rule are of a size
abbrev pub are_of_size : List Pool → ℕ → ℕ → Bool
are_of_size pools rule size = list_all (λ p. not (p.rule == rule) || p.size == size) pools

-- a rule has no negative count, or else pools have it that are of one size: those of another take another map
unfoldable pub has_counts : List Pool → ℕ → List Step → Bool
has_counts pools id steps =
    not (has_negative steps) || (any_has_rule pools id && are_of_size pools id (size_of pools id))

-- what a rule has to pass: it is for copies or coded parts, has words that are known, not too many steps, and counts
abbrev pub passes : RuleTest → List Pool → ℕ → Rule → Bool
passes Kind pools id r = r.kind == 1 || r.kind == 3
passes Words pools id r = has_known_words r.steps
passes Length pools id r = has_few_steps r.steps
passes Counts pools id r = has_counts pools id r.steps

-- the rule of a slot is used and fails a test
unfoldable pub rule_slot_fails : RuleTest → List Pool → ℕ → Slot Rule → Bool
rule_slot_fails test pools id slot =
    option_map_or (λ r. is_used pools id && not (passes test pools id r)) slot.holds false

-- the rule of some slot is used and fails a test
abbrev pub rule_fails_in : RuleTest → List Pool → List (Slot Rule) → Bool
rule_fails_in test pools rules = list_any (λ p. rule_slot_fails test pools p.0 p.1) (enumerate_from 0 rules)

-- some rule that is used fails a test
abbrev pub some_rule_fails : RuleTest → CephMap → Bool
some_rule_fails test m = rule_fails_in test m.pools m.crush.rules
