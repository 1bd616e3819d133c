use Rattle.std.proofs.Common.{◌≡◌, false, replicate}
use Rattle.balancer.proofs.marks.blank_rows.Given as goal

abbrev pub invariant-loop-from : goal.invariant-loop-from
invariant-loop-from l = l.rows.items ≡ replicate l._from (replicate l.domains false)
