use Rattle.plan_laws.proofs.Alone.{greedy_is}
use Rattle.plan_laws.proofs.alone_in_groups.Goals as goal

pub returns : goal.returns
returns c = greedy_is
