use Rattle.std.proofs.Common.{◌≡◌, ◌∙◌, ◌++◌, ℕ, List, [], refl, sym, ap, subst, append-nil, take}
use Rattle.std.proofs.KnownBytes.{Keeps-refl}
use Rattle.session.specs.declared.error.SessionError.{SessionError}
use Rattle.session.specs.Readings.{StopsTaking, TakesMore}
use Rattle.session.specs.Sessions.{session_of, reader_at}
use Rattle.session.proofs.Coming.{consumes_none, passes_nothing, stops_flushing, stops_taking}
use Rattle.session.proofs.Passing.{handed_on}
use Rattle.session.proofs.desk.Desk.take_more.Goals as goal

pub returns-in_err-flush-clause-takes : goal.returns-in_err-flush-clause-takes
returns-in_err-flush-clause-takes g c =
    let m = session_of c.args.self.now.monitor.now (g.G.Gate.lets c.args.self.now.gate.now) in
    let from = reader_at c.args.member.now c.args.reading.now (g.B.Read.remaining c.args.reader.now) in
    let before = g.W.Sink.written c.args.sink.now in
    let after = g.W.Sink.written c.flush.new.sink in
    let P = λ (e : SessionError). (x : List ℕ) × StopsTaking m from.left from.left e from.stand.number from.stand.seen from.begun x from.stand.seen × (after ≡ before ++ x) in
    handed_on (TakesMore m from from before after) c.from_residual.result c.in_err-flush.field-0.0 c.from_residual.ensures.1
    (subst P (sym c.in_err-flush.ensures.write)
    ([], stops_flushing m from.left from.stand.number from.stand.seen from.begun, c.in_err-flush.ensures.same ∙ sym (append-nil before)))

pub returns-then-not-can_count-clause-takes : goal.returns-then-not-can_count-clause-takes
returns-then-not-can_count-clause-takes g c =
    ([], (Keeps-refl (g.B.Read.remaining c.args.reader.now), refl, refl), c.in_ok-flush.ensures.same ∙ sym (append-nil _))

pub returns-in_err-answer_part-clause-takes : goal.returns-in_err-answer_part-clause-takes
returns-in_err-answer_part-clause-takes g c =
    let m = session_of c.args.self.now.monitor.now (g.G.Gate.lets c.args.self.now.gate.now) in
    let from = reader_at c.args.member.now c.args.reading.now (g.B.Read.remaining c.args.reader.now) in
    let to = reader_at c.answer_part.new.member c.answer_part.new.reading (g.B.Read.remaining c.read_some.new.reader) in
    let before = g.W.Sink.written c.args.sink.now in
    let after = g.W.Sink.written c.answer_part.new.sink in
    let error = c.in_err-answer_part.field-0.0 in
    let text = take c.in-Some.taken c.read_some.new.chunk in
    let (out, halted, on) = c.in_err-answer_part.ensures.answers in
    handed_on (TakesMore m from to before after) c.from_residual-in_err-answer_part.result error c.from_residual-in_err-answer_part.ensures.1 (
      out,
      stops_taking m from.left to.left error from.stand.number from.stand.seen to.stand.seen from.begun text out
          (rw c.in-Some.is at c.in_ok-taken.ensures.came).1 halted,
      on ∙ ap (λ o. o ++ out) c.in_ok-flush.ensures.same,
    )

pub returns-in_default-clause-takes : goal.returns-in_default-clause-takes
returns-in_default-clause-takes g c =
    let m = session_of c.args.self.now.monitor.now (g.G.Gate.lets c.args.self.now.gate.now) in
    let from = reader_at c.args.member.now c.args.reading.now (g.B.Read.remaining c.args.reader.now) in (
      [],
      consumes_none _ _ (rw c.in_default.is at c.in_ok-taken.ensures.came),
      (
        [],
        passes_nothing m from.stand.number from.stand.seen from.begun,
        c.in_ok-flush.ensures.same ∙ sym (append-nil _),
      ),
    )

pub returns-clause-takes : goal.returns-clause-takes
returns-clause-takes g c =
    let (put, passed, out) = c.in_ok-answer_part.ensures.answers in (
      take c.in-Some.taken c.read_some.new.chunk,
      (rw c.in-Some.is at c.in_ok-taken.ensures.came).1,
      (put, passed, out ∙ ap (λ o. o ++ put) c.in_ok-flush.ensures.same),
    )

pub returns-in_err-taken-clause-takes : goal.returns-in_err-taken-clause-takes
returns-in_err-taken-clause-takes g c =
    let m = session_of c.args.self.now.monitor.now (g.G.Gate.lets c.args.self.now.gate.now) in
    let from = reader_at c.args.member.now c.args.reading.now (g.B.Read.remaining c.args.reader.now) in
    let to = reader_at c.args.member.now c.args.reading.now (g.B.Read.remaining c.read_some.new.reader) in
    let before = g.W.Sink.written c.args.sink.now in
    let after = g.W.Sink.written c.flush.new.sink in
    let P = λ (e : SessionError). (x : List ℕ) × StopsTaking m from.left to.left e from.stand.number from.stand.seen from.begun x from.stand.seen × (after ≡ before ++ x) in
    handed_on (TakesMore m from to before after) c.from_residual-in_err-taken.result c.in_err-taken.field-0.0 c.from_residual-in_err-taken.ensures.1
    (subst P (sym c.in_err-taken.ensures.error)
    ([], (c.in_err-taken.ensures.kept, refl, refl), c.in_ok-flush.ensures.same ∙ sym (append-nil before)))
