use Rattle.map_laws.proofs.JournalBack.{journals_are_read_back}
use Rattle.map_laws.proofs.change_texts.journals_are_read_back.Goals as goal

pub returns : goal.returns
returns c = journals_are_read_back
