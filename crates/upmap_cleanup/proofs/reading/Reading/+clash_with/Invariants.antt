use Rattle.std.proofs.Common.{length}
use Rattle.upmap_cleanup.proofs.reading.Reading.+clash_with.Given as goal

-- the places that are left
abbrev pub decreases-clash_with : goal.decreases-clash_with
decreases-clash_with l = length l.others.now
