use Rattle.crush_laws.proofs.LongestStraws.{straw2_picks_first_longest}
use Rattle.crush_laws.proofs.straw2_picks_first_longest.Goals as goal

pub returns : goal.returns
returns c = straw2_picks_first_longest
