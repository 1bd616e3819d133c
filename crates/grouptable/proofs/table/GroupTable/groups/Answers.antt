use Rattle.std.proofs.Common.{◌≤◌, length, arith}
use Rattle.grouptable.proofs.Changes.{few_groups}
use Rattle.grouptable.proofs.table.GroupTable.groups.Goals as goal

pub returns-clause-few : goal.returns-clause-few
returns-clause-few c =
    let few : length c.args.self.now.sets ≤ 65536 = rw c.self.view_is at c.self.invariant.few in
    omega (arith, few, few_groups c.args.osd c.args.self.now.sets c.list.result.now c.list.ensures)
