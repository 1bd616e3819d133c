use Rattle.std.proofs.Common.{◌≡◌, ◌∙◌, List, [], ◌∷◌, ◌++◌, length, length-append, arith, ap, sym, subst}
use Rattle.std.specs.List.{All}
use Rattle.std.proofs.lemmas.List.Elements.{All-push}
use Rattle.monitor.specs.declared.member.Member.{Member}
use Rattle.monitor.specs.Members.{IsNewMemberOf}
use Rattle.monitor.proofs.monitor.Monitor.members.Goals as goal

pub loop-seat-preserved : goal.loop-seat-preserved
loop-seat-preserved g c =
    let more : c.push.new.self.items ≡ c.loop-seat.members.items ++ c.in_ok-member.field-0 ∷ [] = c.in_ok-push.ensures.items in
    let longer = length-append c.loop-seat.yielded (c.in-Some.seat ∷ []) in
    let (many, all, tallies, left) = c.loop-seat.invariant in (
      omega (arith, ap length more ∙ length-append c.loop-seat.members.items (c.in_ok-member.field-0 ∷ []), longer, many),
      subst (λ (ms : List Member). All (IsNewMemberOf c.args.self.now) ms) (sym more)
          (All-push (IsNewMemberOf c.args.self.now) c.loop-seat.members.items c.in_ok-member.field-0 all c.in_ok-member.ensures),
      c.take_tally.ensures.rest,
      omega (arith, c.in-Some-take_tally.ensures.next.1, longer, left),
    )
