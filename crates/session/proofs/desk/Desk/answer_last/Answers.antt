use Rattle.std.proofs.Common.{subst}
use Rattle.session.specs.Readings.{AnswersLine}
use Rattle.session.specs.Sessions.{session_of, stand}
use Rattle.session.proofs.Replies.{some_text, no_text}
use Rattle.session.proofs.Passing.{told_none, last_line}
use Rattle.session.proofs.desk.Desk.answer_last.Goals as goal

pub returns-then-is_empty-clause-answers : goal.returns-then-is_empty-clause-answers
returns-then-is_empty-clause-answers g c =
    told_none (session_of c.args.self.now.monitor.now (g.G.Gate.lets c.args.self.now.gate.now)) _ _ c.args.line.now _ (no_text _ _ c.is_empty.ensures c.if-is_empty.true)

pub returns-clause-answers : goal.returns-clause-answers
returns-clause-answers g c =
    let m = session_of c.args.self.now.monitor.now (g.G.Gate.lets c.args.self.now.gate.now) in
    let from = stand c.args.member.now c.args.progress.now in
    let to = stand c.answer.new.member c.answer.new.progress in
    let before = g.W.Sink.written c.args.sink.now in
    let after = g.W.Sink.written c.answer.new.sink in
    last_line m from to c.args.line.now before after c.answer.result c.requires.line (some_text _ _ c.is_empty.ensures c.if-is_empty.false)
    (subst (λ t. AnswersLine m from to t before after c.answer.result) c.read_line.ensures c.answer.ensures.answers)
