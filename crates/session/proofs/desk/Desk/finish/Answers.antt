use Rattle.std.proofs.Common.{◌≡◌, ◌∙◌, ◌++◌, ℕ, List, sym, subst, rules}
use Rattle.session.specs.declared.error.SessionError.{SessionError}
use Rattle.session.specs.Commands.{lines_in}
use Rattle.session.specs.Ends.{Halts}
use Rattle.session.specs.Readings.{AnswersAll}
use Rattle.session.specs.Sessions.{session_of, stand}
use Rattle.session.specs.Transcripts.{IsTranscript, StopsFrom}
use Rattle.session.proofs.Coming.{stops_end}
use Rattle.session.proofs.Passing.{handed_on}
use Rattle.session.proofs.desk.Desk.finish.Goals as goal

pub returns-in_err-answer_last-clause-answers : goal.returns-in_err-answer_last-clause-answers
returns-in_err-answer_last-clause-answers g c =
    let m = session_of c.args.self.now.monitor.now (g.G.Gate.lets c.args.self.now.gate.now) in
    let from = stand c.args.member.now c.args.reading.now.progress in
    let to = stand c.answer_last.new.member c.answer_last.new.progress in
    let before = g.W.Sink.written c.args.sink.now in
    let after = g.W.Sink.written c.answer_last.new.sink in
    let begun = c.args.reading.now.begun.items in
    let error = c.in_err-answer_last.field-0.0 in
    let same : c.deref.result.now ≡ begun = search rules in
    let stopped = subst (λ t. (x : List ℕ) × StopsFrom m (Halts m error) from.number from.seen (lines_in t) x to.seen × (after ≡ before ++ x)) same
    c.in_err-answer_last.ensures.answers in
    handed_on (AnswersAll m from to begun before after) c.from_residual.result error c.from_residual.ensures.1 stopped

pub returns-in_err-flush-clause-answers : goal.returns-in_err-flush-clause-answers
returns-in_err-flush-clause-answers g c =
    let m = session_of c.args.self.now.monitor.now (g.G.Gate.lets c.args.self.now.gate.now) in
    let from = stand c.args.member.now c.args.reading.now.progress in
    let to = stand c.answer_last.new.member c.answer_last.new.progress in
    let begun = c.args.reading.now.begun.items in
    let before = g.W.Sink.written c.args.sink.now in
    let after = g.W.Sink.written c.flush.new.sink in
    let same : c.deref.result.now ≡ begun = search rules in
    let (put, then, out) = c.in_ok-answer_last.ensures.answers in
    let told = subst (λ t. IsTranscript m from.number from.seen (lines_in t) put to.seen) same then in
    let P = λ (e : SessionError). (x : List ℕ) × StopsFrom m (Halts m e) from.number from.seen (lines_in begun) x to.seen × (after ≡ before ++ x) in
    handed_on (AnswersAll m from to begun before after) c.from_residual-in_err-flush.result c.in_err-flush.field-0.0 c.from_residual-in_err-flush.ensures.1
    (subst P (sym c.in_err-flush.ensures.write)
    (put, stops_end m from.number from.seen to.seen (lines_in begun) put told, c.flush.ensures.same ∙ out))
