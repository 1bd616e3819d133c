use Rattle.std.proofs.Common.{length}
use Rattle.upmap_cleanup.proofs.reading.Reading.+fault_from.Given as goal

-- the steps that are left
abbrev pub decreases-fault_from : goal.decreases-fault_from
decreases-fault_from l = length l.steps.now
