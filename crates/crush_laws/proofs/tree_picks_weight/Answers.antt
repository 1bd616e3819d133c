use Rattle.crush_laws.proofs.Picks.{tree_picks_weight}
use Rattle.crush_laws.proofs.tree_picks_weight.Goals as goal

pub returns : goal.returns
returns c = tree_picks_weight
