use Rattle.std.proofs.Common.{◌≡◌, ◌+◌, drop}
use Rattle.pgtable.specs.Stretches.{begun_before}
use Rattle.pgtable.proofs.stretches.begun_before.Given as goal

abbrev pub invariant-loop-i : goal.invariant-loop-i
invariant-loop-i l = begun_before l.groups l.pools ≡ l.i + begun_before l.left (drop l.i l.pools)
