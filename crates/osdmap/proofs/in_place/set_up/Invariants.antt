use Rattle.std.proofs.Common.{◌≡◌, drop, length}
use Rattle.std.specs.List.{fold}
use Rattle.osdmap.specs.Changes.{with_up}
use Rattle.osdmap.proofs.in_place.set_up.Given as goal

abbrev pub invariant-loop-osd : goal.invariant-loop-osd
invariant-loop-osd l = record {
  rest : fold (with_up l.up) l.initial.presences l.osds ≡ fold (with_up l.up) l.presences (drop l.osd-index l.osds);
  sized : length l.presences ≡ length l.initial.presences;
}
