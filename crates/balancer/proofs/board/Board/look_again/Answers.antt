use Rattle.std.proofs.Common.{◌∙◌, sym, ap, get_or}
use Rattle.balancer.proofs.MarksHold.{seen_shut, seen_opened}
use Rattle.balancer.proofs.board.Board.look_again.Goals as goal
use Rattle.balancer.proofs.board.Board.look_again.Goals.{then-may_come, else-may_come}

pub loop-domain-preserved : goal.loop-domain-preserved
loop-domain-preserved c =
    let b = c.args.self.now in
    let d = c.loop-domain.domain in
    elim c.if-may_come.branch [
      | then-may_come w ↦
          rw w.marks-is (seen_opened b.frame.map.now.map b.frame.pool c.in-Some.from c.args.group.now c.args.marks.now c.requires d c.loop-domain.marks w.open.new.self c.loop-domain.invariant w.open.ensures.rows w.open.ensures.alike)
      | else-may_come w ↦
          let first = c.first.ensures ∙ ap (λ xs. get_or xs d 0) c.loop-domain.invariant.alike.firsts in
          rw w.marks-is
          (seen_shut b.frame.map.now.map b.frame.pool c.in-Some.from c.args.group.now c.args.marks.now c.requires d c.loop-domain.marks (rw c.domain_count-domain-end.ensures at c.loop-domain-test.true) c.loop-domain.invariant
          (rw first at (sym c.may_come.ensures ∙ w.if-may_come.false)))
    ]
