use Rattle.std.proofs.Common.{◌≡◌, ◌∙◌, ◌<◌, ◌≤◌, ap, sym, subst, length, get_or, ℕ, ℤ, false, List, Some, inl, inr, arith, rules}
use mir.Syntax.{w128}
use mir.Val.{SFits}
use Rattle.std.proofs.lemmas.Int.{to_z-of_z}
use Rattle.std.specs.Prelude.{int_lt}
use Rattle.std.specs.List.{Contains}
use Rattle.std.proofs.lemmas.Bool.{cases_lt}
use Rattle.std.proofs.lemmas.List.{get_or_default}
use Rattle.balancer.specs.Shares.{aim_of}
use Rattle.balancer.specs.Widths.{bound_of}
use Rattle.balancer.specs.Marks.{is_shut}
use mathlib.Core.Bool.{false≢true}
use Rattle.balancer.specs.Greedy.{after_moves, gap}
use Rattle.balancer.proofs.SearchCovers.{candidate_at}
use Rattle.balancer.proofs.BestCovers.{candidate_in}
use Rattle.balancer.proofs.BoundsOfMoves.{z_most}
use Rattle.balancer.proofs.board.Board.widen.Goals as goal

pub gap-requires-clause-from : goal.gap-requires-clause-from
gap-requires-clause-from c =
    let b = c.args.self.now in
    let inside : c.loop-from.from-index < length b.frame.osds.items = rw c.deref-from-items.ensures.value at c.loop-from-test.true in
    rw c.deref-from-items.ensures.value (candidate_at b.frame.map.now.map b.frame.pool b.frame.osds.items c.loop-from.from-index b.frame.osds_are inside)

pub loop-from-preserved : goal.loop-from-preserved
loop-from-preserved c =
    let b = c.args.self.now in
    let n = after_moves b.frame.map.now.map b.frame.pool b.moves.items in
    let osds = b.frame.osds.items in
    let i = c.loop-from.from-index in
    let fits : SFits w128 c.gap.result = search rules in
    let far : ℕ → ℤ = λ j. gap n b.frame.pool (aim_of b.frame.carried.now b.frame.apart) (get_or osds j 0) c.args.emptier in (
      λ f bound known.
          let one = c.widen.ensures f bound known in
          let before = c.loop-from.invariant.0 f one.0.0 one.0.1 in
          (before.0, before.1, z_most before.0 one.0.0 bound before.2 one.0.2),
      λ j bound below known free.
          let one = c.widen.ensures (get_or osds j 0) bound known in
          elim (cases_lt j i) [
            | inl less ↦ z_most (far j) one.0.0 bound (c.loop-from.invariant.1 j one.0.0 less one.0.1 free) one.0.2
            | inr over ↦
                let same : j ≡ i = omega (arith, below, over) in
                let here : get_or osds j 0 ≡ get_or c.deref-from-items.result.now i 0 = ap (λ k. get_or osds k 0) same ∙ ap (λ xs. get_or xs i 0) (sym c.deref-from-items.ensures.value) in
                rw (here, ← c.gap.ensures) (rw (to_z-of_z w128 c.gap.result fits) at one.1 here)
          ],
    )

pub loop-from-preserved-then-is_shut : goal.loop-from-preserved-then-is_shut
loop-from-preserved-then-is_shut c =
    let b = c.args.self.now in
    let osds = b.frame.osds.items in
    let i = c.loop-from.from-index in (
      c.loop-from.invariant.0,
      λ j bound below known free. elim (cases_lt j i) [
        | inl less ↦ c.loop-from.invariant.1 j bound less known free
        | inr over ↦
            let same : j ≡ i = omega (arith, below, over) in
            let here : get_or osds j 0 ≡ get_or c.deref-from-items.result.now i 0 = ap (λ k. get_or osds k 0) same ∙ ap (λ xs. get_or xs i 0) (sym c.deref-from-items.ensures.value) in
            let open_here : is_shut c.args.marks.now (get_or c.deref-from-items.result.now i 0) c.args.emptier ≡ false = rw here at free in
            absurd (false≢true (sym open_here ∙ sym c.is_shut.ensures ∙ c.if-is_shut.true))
      ],
    )

pub returns : goal.returns
returns c = λ f bound known. (
  c.loop-from.invariant.0 f bound known,
  λ is free.
      let b = c.args.self.now in
      let n = after_moves b.frame.map.now.map b.frame.pool b.moves.items in
      let osds = b.frame.osds.items in
      let past : length osds ≤ c.loop-from.from-index = rw c.deref-from-items.ensures.value at c.loop-from-test.false in
      let at = subst (λ (xs : List ℕ). Contains xs f) (sym b.frame.osds_are) (candidate_in b.frame.map.now.map b.frame.pool f is) in
      let f_is : get_or osds at.0 0 ≡ f = get_or_default osds at.0 0 f at.1 ∙ at.2 in
      subst (λ x. int_lt bound (gap n b.frame.pool (aim_of b.frame.carried.now b.frame.apart) x c.args.emptier) ≡ false) f_is
      (c.loop-from.invariant.1 at.0 bound (omega (arith, past, at.1)) (subst (λ x. bound_of c.loop-from.widths x ≡ Some bound) (sym f_is) known)
      (subst (λ x. is_shut c.args.marks.now x c.args.emptier ≡ false) (sym f_is) free)),
)
