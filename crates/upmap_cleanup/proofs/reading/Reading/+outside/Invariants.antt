use Rattle.std.proofs.Common.{length}
use Rattle.upmap_cleanup.proofs.reading.Reading.+outside.Given as goal

-- the places that are left
abbrev pub decreases-outside : goal.decreases-outside
decreases-outside l = length l.places.now
