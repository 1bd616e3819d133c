use Rattle.std.proofs.Common.{◌≡◌, ◌≤◌, map, take, length}
use Rattle.grouptable.specs.Sets.{place_stored}
use Rattle.pgtable.proofs.shown.places_in.Given as goal

abbrev pub invariant-loop-place : goal.invariant-loop-place
invariant-loop-place l = (l.places ≡ take l.place (map place_stored l.set)) × (length l.places ≤ l.place)
