use Rattle.std.proofs.Common.{◌≡◌, take, length}
use Rattle.pgtable.specs.Patches.{with_ups}
use Rattle.pgtable.proofs.prepare.set_ups.Given as goal

abbrev pub invariant-loop-osd : goal.invariant-loop-osd
invariant-loop-osd l = record {
  turned : l.ups ≡ with_ups l.up l.initial.ups (take l.osd-index l.osds);
  long : length l.ups ≡ length l.initial.ups;
}
