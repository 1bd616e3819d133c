use Rattle.std.proofs.Common.{◌≡◌, take}
use Rattle.verdict.proofs.script.places_of.Given as goal

abbrev pub invariant-loop-osd : goal.invariant-loop-osd
invariant-loop-osd l = l.places ≡ take l.osd-index l.osds
