use Rattle.std.proofs.Common.{◌≡◌, replicate, []}
use Rattle.grouptable.proofs.index.empty_lists.Given as goal

abbrev pub invariant-loop-count : goal.invariant-loop-count
invariant-loop-count l = l.lists.items ≡ replicate l._count []
