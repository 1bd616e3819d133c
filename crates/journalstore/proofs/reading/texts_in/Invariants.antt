use Rattle.journalstore.proofs.LoopLemmas.{HasRead}
use Rattle.journalstore.proofs.reading.texts_in.Given as goal

abbrev pub invariant-loop-row : goal.invariant-loop-row
invariant-loop-row l = HasRead l.rows l.row-index l.found.items l.least
