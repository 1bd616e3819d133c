use Rattle.std.proofs.Common.{◌≡◌, ◌≤◌, take, length}
use Rattle.balancer.proofs.group.short_of.Given as goal

abbrev pub invariant-loop-entry : goal.invariant-loop-entry
invariant-loop-entry g l = (l.short ≡ take l.entry-index l.entries) × (length l.short ≤ l.entry-index)
