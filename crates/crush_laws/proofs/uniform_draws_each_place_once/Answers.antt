use Rattle.crush_laws.proofs.Picks.{draws_each_place_once}
use Rattle.crush_laws.proofs.uniform_draws_each_place_once.Goals as goal

pub returns : goal.returns
returns c = draws_each_place_once
