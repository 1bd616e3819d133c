use Rattle.std.proofs.Common.{◌≡◌, ◌+◌, ◌∙◌, ◌++◌, [], ◌∷◌, suc, sym, ap, subst, append-nil, append_assoc, refl, arith, length, Err}
use Rattle.std.proofs.lemmas.List.{length-append}
use Rattle.session.specs.declared.reply.Speaker.TheVariants.{Monitor}
use Rattle.session.specs.Answers.{IsAnswered}
use Rattle.session.specs.Readings.{Passes, Halted, AnswersLines}
use Rattle.session.specs.Replies.{answer_text}
use Rattle.session.specs.Sessions.{sight_in, session_of, basis_of, stand_in}
use Rattle.session.specs.Texts.{line_of}
use Rattle.session.proofs.Asked.{asks_shared, answers_question, takes_question, some_line, own_same}
use Rattle.session.proofs.Passing.{passes_none, passes_line, passes_more, told_line, halted_line, halted_behind, handed_on}
use Rattle.session.proofs.desk.Desk.answer_more.Goals as goal

pub loop-left-init : goal.loop-left-init
loop-left-init g c =
    let m = session_of c.args.self.now.monitor.now (g.G.Gate.lets c.args.self.now.gate.now) in (
      ([], passes_none m c.args.progress.now.number (sight_in c.args.hold.shared.now c.args.hold.member.now c.args.progress.now.follower) c.args.text.now, sym (append-nil _)),
      c.requires.unfailed,
      c.requires.shares.1,
      refl,
      omega arith,
      omega arith,
      omega (arith, c.lines_of.ensures, c.saturating_sub-left.ensures),
    )

pub loop-left-smaller : goal.loop-left-smaller
loop-left-smaller g c =
    let some = c.loop-left-test.true in
    let less = c.lines_of-in-loop-left.ensures in
    let left = c.saturating_sub-left-in-loop-left.ensures in
    omega arith

pub loop-left-preserved : goal.loop-left-preserved
loop-left-preserved g c =
    let m = session_of c.args.self.now.monitor.now (g.G.Gate.lets c.args.self.now.gate.now) in
    let basis = basis_of c.args.self.now.monitor.now in
    let number = c.args.progress.now.number in
    let sight = sight_in c.args.hold.shared.now c.args.hold.member.now c.args.progress.now.follower in
    let next = c.loop-left.progress.number in
    let (put, passed, out) = c.loop-left.invariant.0 in
    let line = c.in-Some.asking.line.now in
    let others = c.in-Some.asking.rest.now in
    let question = c.in-Some.asking.question in
    let (part, is) = c.in-Some.ensures.asks in
    let answer = line_of (answer_text Monitor) c.answer-found.result in
    let asked = asks_shared basis sight.member question c.answer-found.result c.requires.shared.lawful c.answer-found.ensures.finds c.answer-found.ensures.unspent in
    let own = own_same basis.alone c.args.hold.member.now.pass c.args.hold.member.now.pass answer (λ is. refl) in
    let answered : IsAnswered basis sight line answer sight = answers_question basis sight sight line question answer is asked refl own in
    let taken = takes_question basis (g.G.Gate.lets c.args.self.now.gate.now) next sight sight line question answer c.requires.shares.0 is answered in
    let here : Passes m next sight c.loop-left.rest.now answer (next + 1) sight others =
    subst (λ t. Passes m next sight t answer (next + 1) sight others) (sym c.in-Some.ensures.text) (passes_line m next sight sight line others answer part taken) in
    let lens : length c.loop-left.rest.now ≡ length line + suc (length others) = ap length c.in-Some.ensures.text ∙ length-append line (10 ∷ others) in (
      (
        put ++ answer,
        passes_more m number next (next + 1) sight sight sight c.args.text.now put c.loop-left.rest.now answer others passed here,
        rw (c.in_ok-tell_answer.ensures.out, out, append_assoc (g.W.Sink.written c.args.sink.now) put answer) refl,
      ),
      c.in_ok-tell_answer.ensures.failed,
      c.tell_answer.ensures.waits ∙ c.loop-left.invariant.2,
      c.loop-left.invariant.3,
      omega (arith, lens),
      omega (arith, lens),
      omega (arith, c.loop-left.invariant, c.loop-left-test.true, c.lines_of-in-loop-left.ensures, c.saturating_sub-left-in-loop-left.ensures),
    )

pub returns-in_err-tell_answer-clause-answers : goal.returns-in_err-tell_answer-clause-answers
returns-in_err-tell_answer-clause-answers g c =
    let m = session_of c.args.self.now.monitor.now (g.G.Gate.lets c.args.self.now.gate.now) in
    let basis = basis_of c.args.self.now.monitor.now in
    let number = c.args.progress.now.number in
    let sight = sight_in c.args.hold.shared.now c.args.hold.member.now c.args.progress.now.follower in
    let next = c.loop-left.progress.number in
    let (put, passed, out) = c.loop-left.invariant.0 in
    let line = c.in-Some.asking.line.now in
    let others = c.in-Some.asking.rest.now in
    let question = c.in-Some.asking.question in
    let (part, is) = c.in-Some.ensures.asks in
    let answer = line_of (answer_text Monitor) c.answer-found.result in
    let asked = asks_shared basis sight.member question c.answer-found.result c.requires.shared.lawful c.answer-found.ensures.finds c.answer-found.ensures.unspent in
    let own = own_same basis.alone c.args.hold.member.now.pass c.args.hold.member.now.pass answer (λ is. refl) in
    let answered : IsAnswered basis sight line answer sight = answers_question basis sight sight line question answer is asked refl own in
    let error = c.in_err-tell_answer.field-0.0 in
    let before = g.W.Sink.written c.args.sink.now in
    let after = g.W.Sink.written c.tell_answer.new.sink in
    let (cut, stopped, more) = told_line m (record { number = next; seen = sight }) (record { number = next; seen = sight }) line answer
    (g.W.Sink.written c.loop-left.sink) after (Err error) (some_line line question is) (c.requires.shares.0 next) answered c.in_err-tell_answer.ensures.out in
    let here : Halted m error next sight c.loop-left.rest.now cut sight =
    subst (λ t. Halted m error next sight t cut sight) (sym c.in-Some.ensures.text) (halted_line m error next sight sight line others cut part stopped) in
    rw c.loop-left.invariant.3
    (handed_on (AnswersLines m (stand_in c.args.hold.shared.now c.args.hold.member.now c.args.progress.now) (record { number = next; seen = sight }) c.args.text.now (λ rest. rest.now) before after)
    c.from_residual.result error c.from_residual.ensures.1 (
      put ++ cut,
      halted_behind m error number next sight sight sight c.args.text.now put c.loop-left.rest.now cut passed here,
      more ∙ ap (λ o. o ++ cut) out ∙ append_assoc before put cut,
    ))
