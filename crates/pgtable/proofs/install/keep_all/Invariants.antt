use Rattle.pgtable.proofs.KeptTables.{Keeps}
use Rattle.pgtable.proofs.install.keep_all.Given as goal

abbrev pub invariant-loop-at : goal.invariant-loop-at
invariant-loop-at l = Keeps l.initial.old l.initial.pools l.initial.kept.items l.at l.old l.pools l.kept.items
