use Rattle.std.proofs.Common.{◌≡◌, ◌∙◌, ◌++◌, [], ◌∷◌, OnOk, sym, ap, subst, append-nil, append_assoc}
use Rattle.session.specs.Readings.{Passes, Halted, AnswersLines}
use Rattle.session.specs.Sessions.{session_of, stand}
use Rattle.session.proofs.Coming.{line_of_parts, part_both, rest_kept}
use Rattle.session.proofs.Passing.{passes_none, passes_line, passes_more, halted_line, halted_behind, handed_on}
use Rattle.session.proofs.desk.Desk.answer_part.Goals as goal

pub returns-in_default-clause-answers : goal.returns-in_default-clause-answers
returns-in_default-clause-answers g c =
    let m = session_of c.args.self.now.monitor.now (g.G.Gate.lets c.args.self.now.gate.now) in
    let from = stand c.args.member.now c.args.reading.now.progress in
    let text = c.args.reading.now.begun.items ++ c.args.text.now in
    let out = g.W.Sink.written c.args.sink.now in
    rest_kept m from from text [] text c.keep_more.new.begun.items out out c.keep_more.result (passes_none m from.number from.seen text)
    (sym (append-nil out)) c.keep_more.ensures.more c.keep_more.ensures.memory

pub returns-in_err-answer_begun-clause-answers : goal.returns-in_err-answer_begun-clause-answers
returns-in_err-answer_begun-clause-answers g c =
    let m = session_of c.args.self.now.monitor.now (g.G.Gate.lets c.args.self.now.gate.now) in
    let from = stand c.args.member.now c.args.reading.now.progress in
    let to = stand c.answer_begun.new.member c.answer_begun.new.reading.progress in
    let begun = c.args.reading.now.begun.items in
    let text = c.args.text.now in
    let end = c.in-Some.first.line.now in
    let others = c.in-Some.first.rest.now in
    let error = c.in_err-answer_begun.field-0.0 in
    let before = g.W.Sink.written c.args.sink.now in
    let after = g.W.Sink.written c.answer_begun.new.sink in
    let (part, stops, out) = c.in_err-answer_begun.ensures.answers in
    let halted = halted_line m error from.number from.seen to.seen (begun ++ end) others part
    (part_both begun end c.requires.begun c.in-Some.ensures.0) stops in
    handed_on (AnswersLines m from to (begun ++ text) (λ _. c.answer_begun.new.reading.begun.items) before after)
    c.from_residual.result error c.from_residual.ensures.1
    (part, subst (λ t. Halted m error from.number from.seen t part to.seen) (sym (line_of_parts begun text end others c.in-Some.ensures.1)) halted, out)

pub returns-in_err-rest-clause-answers : goal.returns-in_err-rest-clause-answers
returns-in_err-rest-clause-answers g c =
    let m = session_of c.args.self.now.monitor.now (g.G.Gate.lets c.args.self.now.gate.now) in
    let from = stand c.args.member.now c.args.reading.now.progress in
    let between = stand c.answer_begun.new.member c.answer_begun.new.reading.progress in
    let to = stand c.answer_lines.new.member c.answer_lines.new.progress in
    let begun = c.args.reading.now.begun.items in
    let text = c.args.text.now in
    let end = c.in-Some.first.line.now in
    let others = c.in-Some.first.rest.now in
    let error = c.in_err-rest.field-0.0 in
    let before = g.W.Sink.written c.args.sink.now in
    let after = g.W.Sink.written c.answer_lines.new.sink in
    let (answer, taken, out) = c.in_ok-answer_begun.ensures.answers in
    let one = passes_line m from.number from.seen between.seen (begun ++ end) others answer
    (part_both begun end c.requires.begun c.in-Some.ensures.0) taken in
    let here = subst (λ n. Passes m from.number from.seen ((begun ++ end) ++ 10 ∷ others) answer n between.seen others)
    (sym c.in_ok-answer_begun.ensures.number) one in
    let (more, halts, on) = c.in_err-rest.ensures.answers in
    let halted = halted_behind m error from.number between.number from.seen between.seen to.seen ((begun ++ end) ++ 10 ∷ others) answer others
    more here halts in
    handed_on (AnswersLines m from to (begun ++ text) (λ _. c.answer_begun.new.reading.begun.items) before after)
    c.from_residual-in_err-rest.result error c.from_residual-in_err-rest.ensures.1 (
      answer ++ more,
      subst (λ t. Halted m error from.number from.seen t (answer ++ more) to.seen) (sym (line_of_parts begun text end others c.in-Some.ensures.1)) halted,
      on ∙ ap (λ o. o ++ more) out ∙ append_assoc before answer more,
    )

pub returns-clause-answers : goal.returns-clause-answers
returns-clause-answers g c =
    let m = session_of c.args.self.now.monitor.now (g.G.Gate.lets c.args.self.now.gate.now) in
    let from = stand c.args.member.now c.args.reading.now.progress in
    let between = stand c.answer_begun.new.member c.answer_begun.new.reading.progress in
    let to = stand c.answer_lines.new.member c.answer_lines.new.progress in
    let begun = c.args.reading.now.begun.items in
    let text = c.args.text.now in
    let end = c.in-Some.first.line.now in
    let others = c.in-Some.first.rest.now in
    let rest = c.in_ok-rest.rest.now in
    let before = g.W.Sink.written c.args.sink.now in
    let after = g.W.Sink.written c.answer_lines.new.sink in
    let (answer, taken, out) = c.in_ok-answer_begun.ensures.answers in
    let one = passes_line m from.number from.seen between.seen (begun ++ end) others answer
    (part_both begun end c.requires.begun c.in-Some.ensures.0) taken in
    let here = subst (λ n. Passes m from.number from.seen ((begun ++ end) ++ 10 ∷ others) answer n between.seen others)
    (sym c.in_ok-answer_begun.ensures.number) one in
    let (more, passes, on) = c.in_ok-rest.ensures.answers in
    let all = passes_more m from.number between.number to.number from.seen between.seen to.seen ((begun ++ end) ++ 10 ∷ others) answer others
    more rest here passes in
    let passed = subst (λ t. Passes m from.number from.seen t (answer ++ more) to.number to.seen rest)
    (sym (line_of_parts begun text end others c.in-Some.ensures.1)) all in
    let now = c.keep_more-2.new.begun.items in
    let kept = subst (λ o. OnOk c.keep_more-2.result (now ≡ o ++ rest)) c.in_ok-answer_begun.ensures.none c.keep_more-2.ensures.more in
    rest_kept m from to (begun ++ text) (answer ++ more) rest now before after c.keep_more-2.result passed
    (on ∙ ap (λ o. o ++ more) out ∙ append_assoc before answer more) kept c.keep_more-2.ensures.memory
