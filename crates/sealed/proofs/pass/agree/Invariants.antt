use Rattle.std.proofs.Common.{ℕ, ◌<◌, get_or, IfSome}
use Rattle.once_cell.specs.Once.{Agrees}
use Rattle.sealed.proofs.pass.agree.Given as goal

abbrev pub invariant-loop-i : goal.invariant-loop-i
invariant-loop-i g l = (k : ℕ) (d : _) → k < l.i → IfSome ((get_or l.theirs.items k d).known) (Agrees ((get_or l.mine.items k d).known))
