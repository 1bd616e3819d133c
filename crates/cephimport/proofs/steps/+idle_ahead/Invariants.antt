use Rattle.std.proofs.Common.{length}
use Rattle.cephimport.proofs.steps.+idle_ahead.Given as goal

abbrev pub decreases-idle_ahead : goal.decreases-idle_ahead
decreases-idle_ahead l = length l.steps.now
