use Rattle.std.proofs.Common.{◌≡◌, ◌-◌, refl, subst, ℕ, arith}
use Rattle.std.proofs.lemmas.Nat.{one_shl}
use Rattle.buckets.specs.Tree.{draw_at}
use Rattle.buckets.proofs.TreeWalks.{IsAt, at_leaf, walks, left_le}
use Rattle.buckets.proofs.HashWords.{hash4-lt}
use Rattle.buckets.proofs.pick.tree.tree_pick.Goals as goal

pub step-walk-requires-clause-part : goal.step-walk-requires-clause-part
step-walk-requires-clause-part c =
    let a = c.args in
    let k = c.loop-k.k in
    let half = one_shl (k - 1) 64 (omega (arith, c.loop-k.invariant.low)) in
    left_le (draw_at a.x a.id a.r) k c.loop-k.walk.from _ c.loop-k.walk.weight _ a.items.now (omega arith) half refl c.loop-k.invariant

pub loop-k-preserved : goal.loop-k-preserved
loop-k-preserved c =
    let a = c.args in
    let k = c.loop-k.k in
    let half = one_shl (k - 1) 64 (omega (arith, c.loop-k.invariant.low)) in
    rw c.step-walk.ensures (walks (draw_at a.x a.id a.r) k _ _ c.hash4-draw.result a.items.now c.loop-k.walk (omega arith) half c.node_of.ensures c.hash4-draw.ensures (hash4-lt _ _ _ _) c.loop-k.invariant)

pub returns-clause-place : goal.returns-clause-place
returns-clause-place c =
    let a = c.args in
    let P : ℕ → Type 0 = λ m. IsAt (draw_at a.x a.id a.r) a.items.now m c.loop-k.walk.from c.loop-k.walk.weight in
    let none : c.loop-k.k ≡ 0 = omega arith in
    let leaf = at_leaf (draw_at a.x a.id a.r) c.loop-k.walk.from c.loop-k.walk.weight a.items.now (subst P none c.loop-k.invariant) in
    leaf.0
