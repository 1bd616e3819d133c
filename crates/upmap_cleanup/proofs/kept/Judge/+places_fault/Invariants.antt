use Rattle.std.proofs.Common.{length}
use Rattle.upmap_cleanup.proofs.kept.Judge.+places_fault.Given as goal

-- the places that are left
abbrev pub decreases-places_fault : goal.decreases-places_fault
decreases-places_fault l = length l.places.now
