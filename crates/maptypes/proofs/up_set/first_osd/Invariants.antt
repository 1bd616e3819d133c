use Rattle.std.proofs.Common.{◌≡◌, drop}
use Rattle.maptypes.specs.Sets.{primary_of}
use Rattle.maptypes.proofs.up_set.first_osd.Given as goal

-- no place so far has an OSD
abbrev pub invariant-loop-place : goal.invariant-loop-place
invariant-loop-place l = primary_of l.places ≡ primary_of (drop l.place-index l.places)
