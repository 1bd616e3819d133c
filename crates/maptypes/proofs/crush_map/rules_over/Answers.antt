use Rattle.std.proofs.Common.{inr, map, rules}
use Rattle.std.specs.List.{list_all}
use Rattle.crush.specs.Grammar.{rule_ok}
use Rattle.keylist.specs.Keys.{is_distinct}
use Rattle.refusal.specs.declared.refused.Refusal.TheVariants.{BadRule}
use Rattle.maptypes.specs.declared.rules.NumberedRule.{NumberedRule}
use Rattle.maptypes.specs.CrushMaps.{rules_over}
use Rattle.maptypes.proofs.Judged.{ordered_itself, fails_both}
use Rattle.maptypes.proofs.crush_map.rules_over.Goals as goal

pub returns-then-not-are_over : goal.returns-then-not-are_over
unfolding rules_over
returns-then-not-are_over c =
    inr (fails_both (is_distinct (map (λ (r : NumberedRule). r.id) c.args.rules.items)) (list_all (λ (r : NumberedRule). rule_ok r.rule.kind r.rule.steps c.args.forest.now) c.args.rules.items) BadRule (search rules))

pub returns : goal.returns
unfolding rules_over
returns c =
    ordered_itself (λ v. v.items) (λ (r : NumberedRule). r.id) c.args.rules.items (list_all (λ (r : NumberedRule). rule_ok r.rule.kind r.rule.steps c.args.forest.now) c.args.rules.items) BadRule _ (search rules) c.sort_distinct.ensures
