use Rattle.crush_laws.proofs.ItemsLeadDown.{buckets_lead_down}
use Rattle.crush_laws.proofs.buckets_lead_down.Goals as goal

pub returns : goal.returns
returns c = buckets_lead_down
