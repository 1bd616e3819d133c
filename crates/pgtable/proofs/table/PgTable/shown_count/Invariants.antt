use Rattle.std.proofs.Common.{◌≡◌, ◌≤◌, ◌*◌, take, length}
use Rattle.std.specs.List.{flat_map}
use Rattle.pgtable.specs.Tables.{groups_on}
use Rattle.pgtable.proofs.table.PgTable.shown_count.Given as goal

abbrev pub invariant-loop-table : goal.invariant-loop-table
invariant-loop-table l = record {
  value : l.count ≡ length (flat_map (groups_on l.osd) (take l.table-index l.self.pools));
  few : l.count ≤ 65536 * l.table-index;
}
