use Rattle.std.proofs.Common.{ℕ, ◌<◌}
use Rattle.buckets.specs.Tree.{draw_at}
use Rattle.buckets.specs.Walks.{walk_at}
use Rattle.buckets.proofs.TreeWalks.{IsAt}
use Rattle.buckets.proofs.pick.tree.tree_picks.Given as goal

abbrev pub invariant-loop-k : goal.invariant-loop-k
invariant-loop-k l = (r : ℕ) → r < 4 → IsAt (draw_at l.x l.id r) l.items l.k (walk_at l.walks r).from (walk_at l.walks r).weight
