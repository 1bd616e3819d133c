use Rattle.std.proofs.Common.{◌≡◌, map, false, sym}
use Rattle.std.specs.List.{list_all}
use Rattle.keylist.proofs.Each.{not_all}
use Rattle.refusal.specs.declared.refused.Refusal.TheVariants.{BadRule}
use Rattle.refusal.specs.Outcomes.{refused_unless}
use Rattle.maptypes.specs.Values.{rule_of}
use Rattle.maptypes.specs.CrushMaps.{is_lawful}
use Rattle.maptypes.proofs.Judged.{refused, stops}
use Rattle.maptypes.proofs.crush_map.make_rules.Goals as goal

pub returns-in_err-rule_of : goal.returns-in_err-rule_of
returns-in_err-rule_of c =
    let e = c.in_err-rule_of.field-0.0 in
    stops c.from_residual-in_err-rule_of.result (λ rules. rules.items ≡ map rule_of c.args.parts.now) (refused_unless (list_all (is_lawful c.args.forest.now) c.args.parts.now) BadRule) _ e
    (λ wrong.
    let fails = refused (is_lawful c.args.forest.now c.part-item.result) BadRule e wrong in
    let all : list_all (is_lawful c.args.forest.now) c.args.parts.now ≡ false = not_all (is_lawful c.args.forest.now) c.args.parts.now c.loop-part.part-index c.part-item.result c.part-item.result c.loop-part-test.true (sym c.part-item.is) fails in
    rw all (rw fails at wrong))
    c.in_err-rule_of.ensures c.from_residual-in_err-rule_of.ensures.1
