use Rattle.std.proofs.Common.{◌∙◌}
use Rattle.balancer.proofs.RowsOfGroups.{rows_more}
use Rattle.balancer.proofs.standing.Standing.new.Goals as goal

pub loop-number-preserved : goal.loop-number-preserved
loop-number-preserved c = (
  rows_more c.args.groups.now c.loop-number.number c.index-groups-number.result c.loop-number.standing c.add.new.self c.loop-number.invariant.0
      c.loop-number-test.true c.index-groups-number.is c.in_ok-add.ensures.longer (rw c.as_slice.ensures.value at c.in_ok-add.ensures.known),
  c.in_ok-add.ensures.longer.many ∙ c.loop-number.invariant.1,
)
