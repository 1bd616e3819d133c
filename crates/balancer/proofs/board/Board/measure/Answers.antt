use Rattle.std.proofs.Common.{◌≡◌, ◌∙◌, ◌<◌, ap, sym, subst, refl, true, ℕ, length, get_or, set, arith, rules}
use mir.Syntax.{w128}
use mir.Val.{SFits}
use Rattle.std.proofs.lemmas.Int.{to_z-of_z}
use Rattle.std.proofs.lemmas.List.{get_or_default, length-set}
use Rattle.std.specs.Prelude.{ℤ}
use Rattle.std.specs.List.Sorted.{IsPermutation}
use Rattle.balancer.specs.Greedy.{after_moves}
use Rattle.balancer.specs.Shares.{is_candidate, candidate_osds, deviation, aim_of}
use Rattle.balancer.proofs.SearchCovers.{each_candidate, same_osds, measured_more}
use Rattle.balancer.proofs.board.Board.measure.Goals as goal

pub deviation-requires : goal.deviation-requires
deviation-requires c =
    let b = c.args.self.now in
    let items = c.loop-k.order.items in
    let inside : c.loop-k.k < length items = omega (arith, c.loop-k-test.true, c.len-k-end.ensures, c.args.order.now.ok.0, c.loop-k.invariant.0) in
    subst (λ (f : ℤ × ℕ). is_candidate b.frame.map.now.map b.frame.pool f.1 ≡ true) (sym c.index.ensures)
    (each_candidate b.frame.map.now.map b.frame.pool items c.loop-k.invariant.1 c.loop-k.k c.index.result.now inside)

pub loop-k-preserved : goal.loop-k-preserved
loop-k-preserved c =
    let b = c.args.self.now in
    let n = after_moves b.frame.map.now.map b.frame.pool b.moves.items in
    let items = c.loop-k.order.items in
    let k = c.loop-k.k in
    let e : ℤ × ℕ = (c.deviation.result, c.index_mut.result.now.1) in
    let inside : k < length items = omega (arith, c.loop-k-test.true, c.len-k-end.ensures, c.args.order.now.ok.0, c.loop-k.invariant.0) in
    let fits : SFits w128 c.deviation.result = search rules in
    let read : c.index.result.now ≡ get_or items k e = c.index.ensures ∙ get_or_default items k c.index.result.now e inside in
    let written : c.index_mut.result.now ≡ get_or items k e = c.index_mut.ensures.value ∙ get_or_default items k c.index_mut.result.now e inside in
    let same = same_osds items k e (ap (λ (f : ℤ × ℕ). f.1) written) in
    let dev = c.deviation.ensures.value ∙ ap (λ (f : ℤ × ℕ). deviation n b.frame.pool (aim_of b.frame.carried.now b.frame.apart) f.1) (read ∙ sym written) in
    rw (to_z-of_z w128 c.deviation.result fits) (
      length-set items k e ∙ c.loop-k.invariant.0,
      subst (λ xs. IsPermutation xs (candidate_osds b.frame.map.now.map b.frame.pool)) (sym same) c.loop-k.invariant.1,
      measured_more n b.frame.pool (aim_of b.frame.carried.now b.frame.apart) items (set items k e) k e inside refl dev c.loop-k.invariant.2,
    )
