use Rattle.std.proofs.Common.{length}
use Rattle.cephimport.proofs.tuned.+sets_first.Given as goal

abbrev pub decreases-sets_first : goal.decreases-sets_first
decreases-sets_first l = length l.steps.now
