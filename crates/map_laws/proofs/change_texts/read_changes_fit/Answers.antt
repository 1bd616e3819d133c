use Rattle.map_laws.proofs.ReadChange.{read_changes_fit}
use Rattle.map_laws.proofs.change_texts.read_changes_fit.Goals as goal

pub returns : goal.returns
returns c = read_changes_fit
