use Rattle.std.specs.Prelude.{length}
use Rattle.maptypes.proofs.exception.+are_distinct.Given as goal

abbrev pub decreases-are_distinct : goal.decreases-are_distinct
decreases-are_distinct l = length l.osds.now
