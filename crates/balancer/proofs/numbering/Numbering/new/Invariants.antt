use Rattle.std.proofs.Common.{◌≤◌, length}
use Rattle.balancer.specs.Marks.{AreNumbered}
use Rattle.balancer.proofs.numbering.Numbering.new.Given as goal

abbrev pub invariant-loop-osd : goal.invariant-loop-osd
invariant-loop-osd l = record {
  numbered : AreNumbered l.frame.map.now.map l.frame.pool l.osd l.numbering.numbers.items l.numbering.firsts.items;
  few : length l.numbering.firsts.items ≤ l.osd;
}
