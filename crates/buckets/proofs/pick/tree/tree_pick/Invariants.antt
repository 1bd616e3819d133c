use Rattle.buckets.specs.Tree.{draw_at}
use Rattle.buckets.proofs.TreeWalks.{IsAt}
use Rattle.buckets.proofs.pick.tree.tree_pick.Given as goal

abbrev pub invariant-loop-k : goal.invariant-loop-k
invariant-loop-k l = IsAt (draw_at l.x l.id l.r) l.items l.k l.walk.from l.walk.weight
