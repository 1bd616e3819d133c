use Rattle.std.proofs.Common.{length}
use Rattle.upmap_cleanup.proofs.kept.+says_more.Given as goal

-- the places that are left
abbrev pub decreases-says_more : goal.decreases-says_more
decreases-says_more l = length l.places.now
