use Rattle.std.proofs.Common.{◌≤◌, length, arith}
use Rattle.buckets.proofs.TreeWalks.{part_sums}
use Rattle.buckets.proofs.pick.tree.Tree.weight_between.Goals as goal

pub overflow_sub-result : goal.overflow_sub-result
overflow_sub-result c =
    let a = c.args in
    let items = a.self.now.items.now in
    let within : c.min-end.result ≤ length items = omega arith in
    let both = part_sums items a.from a.count _ _ _ _ c.min-start.ensures c.min-end.ensures (a.self.now.added _ (omega arith)) (a.self.now.added _ within) in
    omega (arith, both)

pub returns : goal.returns
returns c =
    let a = c.args in
    let items = a.self.now.items.now in
    let within : c.min-end.result ≤ length items = omega arith in
    let both = part_sums items a.from a.count _ _ _ _ c.min-start.ensures c.min-end.ensures (a.self.now.added _ (omega arith)) (a.self.now.added _ within) in
    omega (arith, both)
