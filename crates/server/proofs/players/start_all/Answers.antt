use Rattle.std.proofs.Common.{◌≡◌, ◌+◌, ◌∙◌, ap, sym, length, arith}
use Rattle.std.proofs.lemmas.List.{take_more}
use Rattle.server.specs.Players.{IsStartedFor}
use Rattle.server.proofs.Paired.{pairs_more}
use Rattle.server.proofs.Played.{started_for}
use Rattle.server.proofs.players.start_all.Goals as goal

pub loop-part-preserved : goal.loop-part-preserved
loop-part-preserved g c =
    let (members, count, many, paired) = c.loop-part.invariant in
    let numbered : c.len-number.result + 1 ≡ 1 + length c.loop-part.players.items = omega (arith, c.len-number.ensures, c.loop-part.players.ok.0) in
    let started = started_for c.args.monitor.now (1 + length c.loop-part.players.items) c.in_ok-player.player c.part-item.result
    (ap (λ p. p.monitor.now) c.in_ok-player.ensures) (ap (λ p. p.number) c.in_ok-player.ensures ∙ numbered)
    (ap (λ p. p.part.now) c.in_ok-player.ensures) in
    let more = pairs_more (IsStartedFor c.args.monitor.now) 1 _ _ c.in_ok-player.player c.part-item.result paired started in
    let one = rw c.unwrap-member.ensures at c.take_member.ensures.next in
    let taken = take_more c.args.parts.now c.loop-part.part-index c.part-item.result c.loop-part-test.true in (
      c.take_member.ensures.rest,
      omega (arith, one.1),
      omega (arith, c.in_ok-push.ensures.len),
      rw (c.in_ok-push.ensures.items, taken, sym c.part-item.is) more,
    )
