use Rattle.std.proofs.Common.{length}
use Rattle.upmap_cleanup.proofs.reading.Reading.+crowded.Given as goal

-- the places that are left
abbrev pub decreases-crowded : goal.decreases-crowded
decreases-crowded l = length l.places.now
