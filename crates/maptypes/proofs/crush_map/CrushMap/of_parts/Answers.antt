use Rattle.maptypes.specs.CrushMaps.{crush_fault, IsCrushOf}
use Rattle.maptypes.proofs.Judged.{passed, stops}
use Rattle.maptypes.proofs.CrushFits.{fault_rules, no_fault, is_crush_map}
use Rattle.maptypes.proofs.crush_map.CrushMap.of_parts.Goals as goal

pub returns-in_err-rules : goal.returns-in_err-rules
returns-in_err-rules c =
    let e = c.in_err-rules.field-0.0 in
    stops c.from_residual-in_err-rules.result (IsCrushOf c.args.buckets.now c.args.rules.now) (crush_fault c.args.buckets.now c.args.rules.now c.args.max_osd) _ e
    (fault_rules c.args.buckets.now c.args.rules.now c.args.max_osd _ e c.in_ok-forest.ensures.0 c.in_ok-forest.ensures.1) c.in_err-rules.ensures c.from_residual-in_err-rules.ensures.1

pub invariant_of-result : goal.invariant_of-result
invariant_of-result c =
    rw c.in_ok-kept.ensures.ok
    (is_crush_map c.in_ok-forest.forest c.args.rules.now c.in_ok-rules.rules.items (rw c.forest.view_is at c.forest.invariant) c.requires.rules_fit c.requires.rule_count (passed _ _ c.in_ok-rules.ensures.0) c.in_ok-rules.ensures.1)

pub returns : goal.returns
returns c = (
  no_fault c.args.buckets.now c.args.rules.now c.args.max_osd c.in_ok-forest.forest c.in_ok-forest.ensures.0 c.in_ok-forest.ensures.1 c.in_ok-rules.ensures.0,
  record { buckets = rw c.in_ok-kept.ensures.ok c.in_ok-forest.ensures.1; rules = c.in_ok-rules.ensures.1 },
)
