use Rattle.std.proofs.Common.{◌≡◌, ◌++◌, ℕ, List, [], sym, subst, append-nil}
use Rattle.session.specs.declared.error.SessionError.{SessionError}
use Rattle.session.specs.Readings.{StopsAt, AnswersLine}
use Rattle.session.specs.Sessions.{session_of, stand}
use Rattle.session.proofs.Coming.{short_line}
use Rattle.session.proofs.Passing.{handed_on}
use Rattle.session.proofs.desk.Desk.answer_begun.Goals as goal

pub returns-in_err-keep_more-clause-answers : goal.returns-in_err-keep_more-clause-answers
returns-in_err-keep_more-clause-answers g c =
    let m = session_of c.args.self.now.monitor.now (g.G.Gate.lets c.args.self.now.gate.now) in
    let from = stand c.args.member.now c.args.reading.now.progress in
    let line = c.args.reading.now.begun.items ++ c.args.end.now in
    let out = g.W.Sink.written c.args.sink.now in
    let P = λ (e : SessionError). (part : List ℕ) × StopsAt m e from.number from.seen line part from.seen × (out ≡ out ++ part) in
    handed_on (AnswersLine m from from line out out) c.from_residual.result c.in_err-keep_more.field-0.0 c.from_residual.ensures.1
    (subst P (sym c.in_err-keep_more.ensures.memory) ([], short_line m from.number from.seen line, sym (append-nil out)))
