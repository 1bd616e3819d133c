use Rattle.std.proofs.Common.{length}
use Rattle.upmap_cleanup.proofs.reading.Reading.+spread.Given as goal

-- the places that are left
abbrev pub decreases-spread : goal.decreases-spread
decreases-spread l = length l.places.now
