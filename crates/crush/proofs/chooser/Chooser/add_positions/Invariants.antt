use Rattle.std.proofs.Common.{◌≡◌, ◌++◌, map, take}
use Rattle.crush.specs.Indep.{leaf_at}
use Rattle.crush.proofs.chooser.Chooser.add_positions.Given as goal

abbrev pub invariant-loop-position : goal.invariant-loop-position
invariant-loop-position l = l.found.items ≡ l.initial.found.items ++ map leaf_at (take l.position-index l.position-items)
