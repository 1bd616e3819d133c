use Rattle.journalstore.proofs.LoopLemmas.{AreSameTo}
use Rattle.journalstore.proofs.begun.are_same.Given as goal

-- the texts so far say the same
abbrev pub invariant-loop-at : goal.invariant-loop-at
invariant-loop-at l = AreSameTo l.texts l.others l.at
