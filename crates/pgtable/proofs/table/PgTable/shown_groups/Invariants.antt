use Rattle.std.proofs.Common.{◌≡◌, take}
use Rattle.std.specs.List.{flat_map}
use Rattle.pgtable.specs.Tables.{groups_on}
use Rattle.pgtable.proofs.table.PgTable.shown_groups.Given as goal

abbrev pub invariant-loop-table : goal.invariant-loop-table
invariant-loop-table l = l.groups.items ≡ flat_map (groups_on l.osd) (take l.table-index l.self.pools)
