use Rattle.pgtable.proofs.ChangedSets.{leads_next}
use Rattle.pgtable.proofs.update.Update.new.Goals as goal

pub invariant_of-result : goal.invariant_of-result
invariant_of-result c = record {
  leads = leads_next c.args.before.now.map c.args.change.now c.requires.lawful
      (record { in_order = c.parts.ensures.in_order; pools_within = c.parts.ensures.pools_within; growths_within = c.parts.ensures.growths_within; crush_map = c.parts.ensures.crush_map }) c.holds_together.ensures;
  is_source = c.requires.is_source;
  candidates = c.in_ok-groups.ensures;
}
