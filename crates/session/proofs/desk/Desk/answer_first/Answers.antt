use Rattle.std.proofs.Common.{◌+◌, ◌++◌, ◌∷◌, sym, subst}
use Rattle.session.specs.Readings.{AnswersLines, Passes, StopsAt}
use Rattle.session.specs.Sessions.{session_of, stand}
use Rattle.session.specs.Transcripts.{TakesLine}
use Rattle.session.proofs.Passing.{passes_line, halted_line, handed_on}
use Rattle.session.proofs.desk.Desk.answer_first.Goals as goal

pub returns-clause-answers : goal.returns-clause-answers
returns-clause-answers g c =
    let m = session_of c.args.self.now.monitor.now (g.G.Gate.lets c.args.self.now.gate.now) in
    let from = stand c.args.member.now c.args.progress.now in
    let now = stand c.answer.new.member c.answer.new.progress in
    let line = c.args.first.line.now in
    let others = c.args.first.rest.now in
    let (answer, taken, out) = c.in_ok-answer.ensures.answers in
    let taken_there = subst (λ t. TakesLine m from.number from.seen t answer now.seen) c.read_line-line.ensures taken in (
      answer,
      subst (λ n. Passes m from.number from.seen (line ++ 10 ∷ others) answer (n + 1) now.seen others) (sym c.in_ok-answer.ensures.number)
          (passes_line m from.number from.seen now.seen line others answer c.requires.line taken_there),
      out,
    )

pub returns-in_err-answer-clause-answers : goal.returns-in_err-answer-clause-answers
returns-in_err-answer-clause-answers g c =
    let m = session_of c.args.self.now.monitor.now (g.G.Gate.lets c.args.self.now.gate.now) in
    let from = stand c.args.member.now c.args.progress.now in
    let now = stand c.answer.new.member c.answer.new.progress in
    let line = c.args.first.line.now in
    let others = c.args.first.rest.now in
    let error = c.in_err-answer.field-0.0 in
    let (part, stopped, more) = c.in_err-answer.ensures.answers in
    let stopped_there = subst (λ t. StopsAt m error from.number from.seen t part now.seen) c.read_line-line.ensures stopped in
    handed_on (AnswersLines m from now (line ++ 10 ∷ others) (λ rest. rest.now) (g.W.Sink.written c.args.sink.now) (g.W.Sink.written c.answer.new.sink))
    c.from_residual.result error c.from_residual.ensures.1
    (part, halted_line m error from.number from.seen now.seen line others part c.requires.line stopped_there, more)
