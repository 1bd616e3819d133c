use Rattle.std.proofs.Common.{length}
use Rattle.cephimport.proofs.steps.+lives.Given as goal

abbrev pub decreases-lives : goal.decreases-lives
decreases-lives l = length l.steps.now
