use Rattle.std.proofs.Common.{take}
use Rattle.std.specs.List.{All}
use Rattle.crush.specs.Grammar.{IsLawfulRule}
use Rattle.maptypes.proofs.crush_map.are_lawful.Given as goal

-- the rules so far
abbrev pub invariant-loop-rule : goal.invariant-loop-rule
invariant-loop-rule l = All (λ r. IsLawfulRule r.rule.kind r.rule.steps) (take l.rule-index l.rules)
