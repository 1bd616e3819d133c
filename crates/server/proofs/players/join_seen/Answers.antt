use Rattle.std.proofs.Common.{◌∙◌, sym, ap, arith}
use Rattle.epochlog.specs.Epochs.{Seen}
use Rattle.server.proofs.Joined.{join_more, all_joined, member_at}
use Rattle.server.proofs.players.join_seen.Goals as goal

pub bounds-requires : goal.bounds-requires
bounds-requires g c =
    let member = member_at c.args.ended.now c.args.lefts.now c.loop-left.left-index c.left-item.result c.loop-left-test.true c.left-item.is
    c.requires.members in
    member.counted

pub join-requires : goal.join-requires
join-requires g c =
    let member = member_at c.args.ended.now c.args.lefts.now c.loop-left.left-index c.left-item.result c.loop-left-test.true c.left-item.is
    c.requires.members in
    c.loop-left.invariant.0 ∙ sym member.row ∙ ap (λ (s : Seen). s.row) (sym c.pass.ensures)

pub loop-left-preserved : goal.loop-left-preserved
loop-left-preserved g c =
    let (row, same, begin) = c.loop-left.invariant in
    let more = join_more c.args.ended.now.state.value.pass.history c.loop-left.all.history c.join.new.self.history c.args.lefts.now
    c.loop-left.left-index c.left-item.result c.loop-left-test.true c.left-item.is c.bounds.ensures same begin
    (rw c.pass.ensures at c.join.ensures.history) (rw c.pass.ensures at c.join.ensures.theirs) in
    (c.join.ensures.row ∙ row, more.0, more.1)

pub returns-clause-begin : goal.returns-clause-begin
returns-clause-begin g c =
    all_joined c.loop-left.all.history c.args.lefts.now c.loop-left.left-index (omega (arith, c.loop-left-test.false)) c.loop-left.invariant.2
