use Rattle.journalstore.proofs.FoldLemmas.{folded}
use Rattle.journalstore.proofs.opening.fold_log.Goals as goal

pub returns : goal.returns
returns g c = record { folded = folded _ c.in_ok-conn.conn c.in_ok-files.files c.in_ok-conn.ensures.found c.in_ok-files.ensures.closed }
