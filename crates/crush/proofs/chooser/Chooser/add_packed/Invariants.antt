use Rattle.std.proofs.Common.{◌≡◌, ◌++◌, map, take, Some}
use Rattle.crush.specs.declared.choose.Choice.{Choice}
use Rattle.crush.proofs.chooser.Chooser.add_packed.Given as goal

abbrev pub invariant-loop-choice : goal.invariant-loop-choice
invariant-loop-choice l = l.found.items ≡ l.initial.found.items ++ map (λ (e : Choice). Some e.leaf) (take l.choice-index l.choice-items)
