use Rattle.std.proofs.Common.{◌≡◌, ℕ, ℤ, ◌<◌, Some, false, get_or}
use Rattle.std.specs.Prelude.{int_lt}
use Rattle.balancer.specs.Shares.{aim_of}
use Rattle.balancer.specs.Greedy.{gap, after_moves}
use Rattle.balancer.specs.Widths.{bound_of}
use Rattle.balancer.specs.Marks.{is_shut}
use Rattle.balancer.proofs.board.Board.widen.Given as goal

-- what was known stays, and of those so far it holds of moves to the one that is emptier too
abbrev pub invariant-loop-from : goal.invariant-loop-from
invariant-loop-from l =
    ((from : ℕ) (bound : ℤ) → bound_of l.widths from ≡ Some bound → (old : ℤ) × (bound_of l.initial.widths from ≡ Some old) × (int_lt bound old ≡ false))
    × ((j : ℕ) (bound : ℤ) → j < l.from-index → bound_of l.widths (get_or l.self.frame.osds.items j 0) ≡ Some bound
    → is_shut l.marks (get_or l.self.frame.osds.items j 0) l.emptier ≡ false → int_lt bound (gap (after_moves l.self.frame.map.now.map l.self.frame.pool l.self.moves.items) l.self.frame.pool (aim_of l.self.frame.carried.now l.self.frame.apart) (get_or l.self.frame.osds.items j 0) l.emptier) ≡ false)
