use Rattle.crush_laws.proofs.Picks.{list_picks_greatest_winner}
use Rattle.crush_laws.proofs.list_picks_greatest_winner.Goals as goal

pub returns : goal.returns
returns c = list_picks_greatest_winner
