use Rattle.std.proofs.Common.{nat_abs, refl}
use Rattle.refusal.specs.declared.refused.Refusal.TheVariants.{BadRule}
use Rattle.mapparts.specs.declared.parts.RulePart.{RulePart}
use Rattle.maptypes.specs.declared.rules.NumberedRule.{NumberedRule}
use Rattle.maptypes.specs.Values.{rule_of}
use Rattle.maptypes.proofs.Judged.{ordered}
use Rattle.maptypes.proofs.crush_map.rules_of.Goals as goal

pub returns : goal.returns
returns c =
    ordered (λ v. v.items) rule_of (λ (r : RulePart). nat_abs r.id) (λ (r : NumberedRule). r.id) (λ r. refl) c.args.parts.now _ _ BadRule _ c.in_ok-rules.ensures.1 c.in_ok-rules.ensures.0 c.sort_distinct.ensures
