use Rattle.plan_laws.proofs.Toward.{plan_is}
use Rattle.plan_laws.proofs.toward_shares.Goals as goal

pub returns : goal.returns
returns c = plan_is
