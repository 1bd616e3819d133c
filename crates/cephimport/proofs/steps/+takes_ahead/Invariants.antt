use Rattle.std.proofs.Common.{length}
use Rattle.cephimport.proofs.steps.+takes_ahead.Given as goal

abbrev pub decreases-takes_ahead : goal.decreases-takes_ahead
decreases-takes_ahead l = length l.steps.now
