use Rattle.std.proofs.Common.{◌≡◌, ◌++◌, map, take}
use Rattle.grouptable.specs.Sets.{groups_of}
use Rattle.osdmap.specs.Placement.{group_of}
use Rattle.pgtable.proofs.pool_table.PoolTable.add_groups.Given as goal

abbrev pub invariant-loop-number : goal.invariant-loop-number
invariant-loop-number l = l.groups.items ≡ l.initial.groups.items ++ map (group_of l.self.pool) (take l.number-index (groups_of l.osd l.self.groups.sets))
