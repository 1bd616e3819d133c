use Rattle.std.proofs.Common.{◌∙◌, arith}
use Rattle.server.proofs.Joined.{follow_more, all_follow}
use Rattle.server.proofs.players.are_followed.Goals as goal

pub loop-left-preserved : goal.loop-left-preserved
loop-left-preserved c =
    let (same, so_far) = c.loop-left.invariant in
    let now = c.if-not-is_followed.ensures.same in (
      now ∙ same,
      follow_more c.loop-left.all c.is_followed.new.all c.args.lefts.now c.loop-left.left-index c.left-item.result c.loop-left-test.true c.left-item.is now
          so_far c.if-not-is_followed.ensures.begins,
    )

pub returns-clause-begin : goal.returns-clause-begin
returns-clause-begin c =
    all_follow c.loop-left.all.history c.args.lefts.now c.loop-left.left-index (omega (arith, c.loop-left-test.false)) c.loop-left.invariant.1
