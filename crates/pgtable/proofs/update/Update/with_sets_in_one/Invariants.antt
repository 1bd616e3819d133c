use Rattle.std.proofs.Common.{◌≡◌, take}
use Rattle.pgtable.specs.After.{map_after}
use Rattle.pgtable.specs.Patches.{with_sets}
use Rattle.pgtable.specs.Tables.{RunsMore}
use Rattle.pgtable.proofs.update.Update.with_sets_in_one.Given as goal

abbrev pub invariant-loop-number : goal.invariant-loop-number
invariant-loop-number l = record {
  made : l.changes.items ≡ with_sets (map_after l.self) l.pool (take l.number-index l.numbers);
  runs : RunsMore l.number-index l.initial.work l.work;
}
