use Rattle.std.proofs.Common.{◌≡◌, ◌∙◌, ◌+◌, ◌<◌, ◌++◌, ℕ, List, [], ◌∷◌, suc, length, sym, ap, subst, append-nil, append_assoc, arith}
use Rattle.std.proofs.lemmas.List.{length-append}
use Rattle.session.specs.declared.error.SessionError.{SessionError}
use Rattle.session.specs.declared.error.SessionError.TheVariants.{Write}
use Rattle.session.specs.Readings.{Passes, Halted, AnswersLines}
use Rattle.session.specs.Sessions.{sight_by, session_of, stand}
use Rattle.session.proofs.Passing.{passes_none, passes_more, halted_behind, halted_before, handed_on}
use Rattle.session.proofs.desk.Desk.answer_lines.Goals as goal

pub loop-first-init : goal.loop-first-init
loop-first-init g c =
    let m = session_of c.args.self.now.monitor.now (g.G.Gate.lets c.args.self.now.gate.now) in (
      ([], passes_none m c.args.progress.now.number (sight_by c.args.member.now c.args.progress.now.follower) c.args.text.now, sym (append-nil _)),
      c.requires.session,
      c.requires.few,
    )

pub loop-first-smaller : goal.loop-first-smaller
loop-first-smaller g c =
    let line = c.in-Some.first.line.now in
    let others = c.in-Some.first.rest.now in
    let lens : length c.loop-first.rest.now ≡ length line + suc (length others) = ap length c.in-Some.ensures.1 ∙ length-append line (10 ∷ others) in
    let less = c.in_ok-rest.ensures.left.1 in
    let smaller : length c.in_ok-rest.rest.now < length c.loop-first.rest.now = omega (arith, lens) in
    smaller

pub loop-first-preserved : goal.loop-first-preserved
loop-first-preserved g c =
    let m = session_of c.args.self.now.monitor.now (g.G.Gate.lets c.args.self.now.gate.now) in
    let number = c.args.progress.now.number in
    let first = sight_by c.args.member.now c.args.progress.now.follower in
    let text = c.args.text.now in
    let next = c.loop-first.progress.number in
    let between = sight_by c.loop-first.member c.loop-first.progress.follower in
    let rest = c.loop-first.rest.now in
    let (put, passed, out) = c.loop-first.invariant.0 in
    let line = c.in-Some.first.line.now in
    let others = c.in-Some.first.rest.now in
    let after = c.answer_first.new.progress.number in
    let last = sight_by c.answer_first.new.member c.answer_first.new.progress.follower in
    let end = c.in_ok-rest.rest.now in
    let (more, passes, on) = c.in_ok-rest.ensures.answers in
    let here : Passes m next between rest more after last end = subst (λ t. Passes m next between t more after last end) (sym c.in-Some.ensures.1) passes in
    let lens : length rest ≡ length line + suc (length others) = ap length c.in-Some.ensures.1 ∙ length-append line (10 ∷ others) in
    let fewer = c.in_ok-rest.ensures.left.0 in (
      (
        put ++ more,
        passes_more m number next after first between last text put rest more end passed here,
        on ∙ ap (λ o. o ++ more) (c.flush_if_full.ensures.same ∙ out) ∙ append_assoc (g.W.Sink.written c.args.sink.now) put more,
      ),
      c.in_ok-rest.ensures.session,
      omega (arith, lens, fewer, c.loop-first.invariant.2),
    )

pub returns-in_err-rest-clause-answers : goal.returns-in_err-rest-clause-answers
returns-in_err-rest-clause-answers g c =
    let m = session_of c.args.self.now.monitor.now (g.G.Gate.lets c.args.self.now.gate.now) in
    let from = stand c.args.member.now c.args.progress.now in
    let between = stand c.loop-first.member c.loop-first.progress in
    let to = stand c.answer_first.new.member c.answer_first.new.progress in
    let text = c.args.text.now in
    let rest = c.loop-first.rest.now in
    let (put, passed, out) = c.loop-first.invariant.0 in
    let error = c.in_err-rest.field-0.0 in
    let before = g.W.Sink.written c.args.sink.now in
    let after = g.W.Sink.written c.answer_first.new.sink in
    let (part, halted, on) = c.in_err-rest.ensures.answers in
    let here : Halted m error between.number between.seen rest part to.seen =
    subst (λ t. Halted m error between.number between.seen t part to.seen) (sym c.in-Some.ensures.1) halted in
    handed_on (AnswersLines m from to text (λ rest. rest.now) before after) c.from_residual-in_err-rest.result error c.from_residual-in_err-rest.ensures.1 (
      put ++ part,
      halted_behind m error from.number between.number from.seen between.seen to.seen text put rest part passed here,
      on ∙ ap (λ o. o ++ part) (c.flush_if_full.ensures.same ∙ out) ∙ append_assoc before put part,
    )

pub returns-in_err-flush_if_full-clause-answers : goal.returns-in_err-flush_if_full-clause-answers
returns-in_err-flush_if_full-clause-answers g c =
    let m = session_of c.args.self.now.monitor.now (g.G.Gate.lets c.args.self.now.gate.now) in
    let from = stand c.args.member.now c.args.progress.now in
    let between = stand c.loop-first.member c.loop-first.progress in
    let text = c.args.text.now in
    let rest = c.loop-first.rest.now in
    let (put, passed, out) = c.loop-first.invariant.0 in
    let before = g.W.Sink.written c.args.sink.now in
    let after = g.W.Sink.written c.flush_if_full.new.sink in
    let P = λ (e : SessionError). (x : List ℕ) × Halted m e from.number from.seen text x between.seen × (after ≡ before ++ x) in
    let halted = halted_behind m Write from.number between.number from.seen between.seen between.seen text put rest []
    passed (halted_before m between.number between.seen rest) in
    handed_on (AnswersLines m from between text (λ rest. rest.now) before after) c.from_residual.result c.in_err-flush_if_full.field-0.0
    c.from_residual.ensures.1 (subst P (sym c.in_err-flush_if_full.ensures.write)
    (put ++ [], halted, c.flush_if_full.ensures.same ∙ out ∙ ap (λ o. before ++ o) (sym (append-nil put))))
