use Rattle.std.proofs.Common.{◌≡◌, ◌-◌, map}
use Rattle.std.specs.List.{range_with_len}
use Rattle.osdmap.specs.Placement.{mapped_set}
use Rattle.pgtable.specs.Tables.{RunsMore}
use Rattle.pgtable.proofs.mapped.sets_between.Given as goal

abbrev pub invariant-loop-number : goal.invariant-loop-number
invariant-loop-number l = (l.sets ≡ record { width = l.placing.pool.size; sets = map (mapped_set l.placing.map.now.map l.placing.pool) (range_with_len l.from (l.number - l.from)) }) × RunsMore (l.number - l.from) l.initial.work l.work
