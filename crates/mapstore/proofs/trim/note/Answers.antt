use Rattle.journalstore.specs.Read.{texts_read}
use Rattle.mapstore.proofs.trim.note.Goals as goal

pub returns-clause-holds : goal.returns-clause-holds
returns-clause-holds g c = c.in_ok-checkpoint.ensures.cut (texts_read c.args.texts) c.requires.holds
