use Rattle.crush_laws.proofs.Picks.{trees_are_walked_by_nodes}
use Rattle.crush_laws.proofs.trees_are_walked_by_nodes.Goals as goal

pub returns : goal.returns
returns c = trees_are_walked_by_nodes
