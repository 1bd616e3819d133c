use Rattle.std.proofs.Common.{◌≡◌, subst, arith, take, take_all, List}
use Rattle.std.specs.List.{All}
use Rattle.std.proofs.lemmas.List.Elements.{All-more}
use Rattle.crush.specs.Grammar.{IsLawfulRule}
use Rattle.maptypes.specs.declared.rules.NumberedRule.{NumberedRule}
use Rattle.maptypes.proofs.crush_map.are_lawful.Goals as goal

pub loop-rule-preserved : goal.loop-rule-preserved
loop-rule-preserved c =
    All-more (λ r. IsLawfulRule r.rule.kind r.rule.steps) c.args.rules.now c.loop-rule.rule-index c.rule-item.result c.loop-rule-test.true c.loop-rule.invariant (rw (← c.rule-item.is) c.steps.ensures.lawful)

pub returns : goal.returns
returns c =
    let all : take c.loop-rule.rule-index c.args.rules.now ≡ c.args.rules.now = take_all c.loop-rule.rule-index c.args.rules.now (omega (arith, c.loop-rule-test.false)) in
    subst (λ (rs : List NumberedRule). All (λ r. IsLawfulRule r.rule.kind r.rule.steps) rs) all c.loop-rule.invariant
