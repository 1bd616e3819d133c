use Rattle.crush_laws.proofs.Picks.{uniform_picks_each_once}
use Rattle.crush_laws.proofs.uniform_picks_each_once.Goals as goal

pub returns : goal.returns
returns c = uniform_picks_each_once
