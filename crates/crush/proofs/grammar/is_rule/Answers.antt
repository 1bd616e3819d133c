use Rattle.std.proofs.Common.{arith}
use Rattle.crush.proofs.LastSteps.{is_rule-at_last}
use Rattle.crush.proofs.grammar.is_rule.Goals as goal

pub returns-then-is_emit : goal.returns-then-is_emit
returns-then-is_emit c = grind (arith, is_rule-at_last c.args.kind _ _ _ c.in-Some.ensures.cases.0)

pub returns-else-is_emit : goal.returns-else-is_emit
returns-else-is_emit c = grind (arith, is_rule-at_last c.args.kind _ _ _ c.in-Some.ensures.cases.0)
