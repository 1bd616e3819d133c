use Rattle.std.proofs.Common.{◌≡◌, ◌≤◌, map, take, length}
use Rattle.std.specs.Prelude.{option_and_then}
use Rattle.grouptable.specs.Sets.{place_stored}
use Rattle.maptypes.specs.Sets.{kept_places}
use Rattle.pgtable.specs.Tables.{upward_in}
use Rattle.pgtable.proofs.shown.show_set.Given as goal

abbrev pub invariant-loop-place : goal.invariant-loop-place
invariant-loop-place l = (l.shown ≡ kept_places l.kind (map (option_and_then (upward_in l.up)) (take l.place (map place_stored l.set)))) × (length l.shown ≤ l.place)
