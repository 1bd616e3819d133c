use Rattle.std.proofs.Common.{◌≡◌, ◌∙◌, true, false, sym, arith}
use Rattle.balancer.specs.Greedy.{after_moves}
use Rattle.balancer.specs.Plans.{is_moved, items_at}
use Rattle.balancer.proofs.MovedGroups.{known_moved}
use Rattle.balancer.proofs.WeightsOfCandidates.{made_range_yes, made_range_no}
use Rattle.balancer.proofs.board.Board.items.Goals as goal
use Rattle.balancer.proofs.board.Board.items.Goals.{then-index+in_ok-push, else-index}

pub loop-number-preserved : goal.loop-number-preserved
loop-number-preserved c =
    let b = c.args.self.now in
    let f = items_at (after_moves b.frame.map.now.map b.frame.pool b.moves.items) b.frame.pool in
    let known = known_moved b.moves.items c.deref.result.now c.pg_num.result c.loop-number.number c.in_ok-moved.moved.items c.index.result.now c.deref.ensures.value c.in_ok-moved.ensures (omega (arith, c.loop-number-test.true, c.pg_num.ensures.value, c.pg_num-number-end.ensures.value)) c.index.ensures in
    elim c.if-index.branch [
      | then-index+in_ok-push w ↦
          let is : is_moved b.moves.items c.loop-number.number ≡ true = known ∙ w.if-index.true in
          rw (w.items-is, w.in_ok-push.ensures.items, c.loop-number.invariant, w.items_at.ensures) (sym (made_range_yes f (is_moved b.moves.items) c.loop-number.number is))
      | else-index w ↦
          let is : is_moved b.moves.items c.loop-number.number ≡ false = known ∙ w.if-index.false in
          rw (w.items-is, c.loop-number.invariant) (sym (made_range_no f (is_moved b.moves.items) c.loop-number.number is))
    ]
