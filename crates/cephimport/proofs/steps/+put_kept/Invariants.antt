use Rattle.std.proofs.Common.{length}
use Rattle.cephimport.proofs.steps.+put_kept.Given as goal

abbrev pub decreases-put_kept : goal.decreases-put_kept
decreases-put_kept l = length l.steps.now
