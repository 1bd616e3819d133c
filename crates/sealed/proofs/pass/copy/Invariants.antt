use Rattle.std.proofs.Common.{◌≡◌, ◌++◌, take, drop}
use Rattle.sealed.proofs.pass.copy.Given as goal

abbrev pub invariant-loop-i : goal.invariant-loop-i
invariant-loop-i g l = l.mine.items ≡ take l.i l.theirs.items ++ drop l.i l.initial.mine.items
