use Rattle.std.proofs.Common.{◌≡◌, ℕ, ◌-◌, ◌<◌, refl, subst, arith}
use Rattle.std.proofs.lemmas.Nat.{one_shl}
use Rattle.rjenkins.proofs.FourLanes.{below_four}
use Rattle.buckets.specs.Tree.{draw_at}
use Rattle.buckets.specs.Walks.{walk_at}
use Rattle.buckets.proofs.TreeWalks.{IsAt, at_leaf, walks, left_le, half_room}
use Rattle.buckets.proofs.HashWords.{hash4-lt}
use Rattle.buckets.proofs.pick.tree.tree_picks.Goals as goal

pub step_each-walks-requires-clause-few : goal.step_each-walks-requires-clause-few
step_each-walks-requires-clause-few c = λ r low.
    let a = c.args in
    let k = c.loop-k.k in
    let at = c.loop-k.invariant r low in
    let half = one_shl (k - 1) 64 (omega (arith, at.low)) in
    half_room (draw_at a.x a.id r) k _ _ _ a.items.now (omega arith) half at

pub step_each-walks-requires-clause-part : goal.step_each-walks-requires-clause-part
step_each-walks-requires-clause-part c = λ r low.
    let a = c.args in
    let k = c.loop-k.k in
    let at = c.loop-k.invariant r low in
    let half = one_shl (k - 1) 64 (omega (arith, at.low)) in
    left_le (draw_at a.x a.id r) k _ _ _ _ a.items.now (omega arith) half refl at

pub loop-k-preserved : goal.loop-k-preserved
loop-k-preserved c = λ r low.
    let a = c.args in
    let k = c.loop-k.k in
    let at = c.loop-k.invariant r low in
    let half = one_shl (k - 1) 64 (omega (arith, at.low)) in
    rw (c.step_each-walks.ensures r low) (walks (draw_at a.x a.id r) k _ _ _ a.items.now (walk_at c.loop-k.walks r) (omega arith) half refl refl (hash4-lt _ _ _ _) at)

pub returns-clause-place : goal.returns-clause-place
returns-clause-place c =
    let a = c.args in
    let none : c.loop-k.k ≡ 0 = omega arith in
    let leaf = λ (r : ℕ) (low : r < 4). let w = walk_at c.loop-k.walks r in
    let P : ℕ → Type 0 = λ m. IsAt (draw_at a.x a.id r) a.items.now m w.from w.weight in
    (at_leaf (draw_at a.x a.id r) w.from w.weight a.items.now (subst P none (c.loop-k.invariant r low))).0
    in below_four _ (leaf 0 (omega arith)) (leaf 1 (omega arith)) (leaf 2 (omega arith)) (leaf 3 (omega arith))
