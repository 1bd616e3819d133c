use Rattle.cephimport.specs.Rules.{slot_rule}
use Rattle.cephimport.proofs.Numbered.{one_more, is_whole}
use Rattle.cephimport.proofs.rules.rules_in.Goals as goal

pub loop-id-preserved : goal.loop-id-preserved
loop-id-preserved c = one_more (λ p. slot_rule c.args.map.now p.0 p.1) c.args.slots.now c.loop-id.id c.index-slots-id.result _ _ c.loop-id-test.true c.index-slots-id.is c.loop-id.invariant c.in_ok-put_rule.ensures

pub returns : goal.returns
returns c = is_whole (λ p. slot_rule c.args.map.now p.0 p.1) c.args.slots.now c.loop-id.id _ c.loop-id-test.false c.loop-id.invariant
