use Rattle.std.proofs.Common.{◌≡◌, ◌∙◌, ◌++◌, [], IfErr, refl, sym, ap, subst, append-nil, append_assoc, rules}
use Rattle.std.proofs.KnownBytes.{Consumes-nil, Consumes-trans}
use Rattle.session.specs.Answers.{Sight}
use Rattle.session.specs.Readings.{IsUnended, Passes, Stand}
use Rattle.session.specs.Sessions.{first_sight, session_of, stand, IsCutShort}
use Rattle.session.proofs.Coming.{no_part, passes_on, stops_reading, told_reading, stopped_reading}
use Rattle.session.proofs.Fresh.{fresh_stand}
use Rattle.session.proofs.Passing.{passes_none, handed_on}
use Rattle.session.proofs.desk.Desk.read_lines.Goals as goal

pub loop-init : goal.loop-init
loop-init g c =
    let m = session_of c.args.self.now.monitor.now (g.G.Gate.lets c.args.self.now.gate.now) in
    let first = first_sight c.args.member.now in
    let none = c.requires.begun in
    let fresh = fresh_stand c.args.member.now c.args.reading.now.progress c.requires.number c.requires.none in
    let begun = subst (λ t. Passes m 1 first [] [] 1 first t) (sym none) (passes_none m 1 first []) in (
      (
        [],
        [],
        Consumes-nil (g.B.Read.remaining c.args.reader.now),
        subst (λ (s : Stand Sight). Passes m 1 first [] [] s.number s.seen c.args.reading.now.begun.items) (sym fresh) begun,
        sym (append-nil (g.W.Sink.written c.args.sink.now)),
      ),
      c.requires.session,
      subst IsUnended (sym none) no_part,
    )

pub loop-preserved : goal.loop-preserved
loop-preserved g c =
    let m = session_of c.args.self.now.monitor.now (g.G.Gate.lets c.args.self.now.gate.now) in
    let first = first_sight c.args.member.now in
    let between = stand c.loop.member c.loop.reading.progress in
    let to = stand c.take_more.new.member c.take_more.new.reading.progress in
    let begun = c.loop.reading.begun.items in
    let now = c.take_more.new.reading.begun.items in
    let before = g.W.Sink.written c.args.sink.now in
    let (read, put, takes, passed, out) = c.loop.invariant.0 in
    let (text, gives, (more, on, then)) = c.in_ok-take_more.ensures.takes in (
      (
        read ++ text,
        put ++ more,
        Consumes-trans _ _ _ read text takes gives,
        passes_on m 1 between.number to.number first between.seen to.seen read text put more begun now passed on,
        then ∙ ap (λ o. o ++ more) out ∙ append_assoc before put more,
      ),
      c.in_ok-take_more.ensures.session,
      c.in_ok-take_more.ensures.begun,
    )

pub returns-in_err-take_more-clause-err : goal.returns-in_err-take_more-clause-err
returns-in_err-take_more-clause-err g c =
    let m = session_of c.args.self.now.monitor.now (g.G.Gate.lets c.args.self.now.gate.now) in
    let first = first_sight c.args.member.now in
    let between = stand c.loop.member c.loop.reading.progress in
    let to = stand c.take_more.new.member c.take_more.new.reading.progress in
    let known = g.B.Read.remaining c.args.reader.now in
    let mid = g.B.Read.remaining c.loop.reader in
    let left = g.B.Read.remaining c.take_more.new.reader in
    let before = g.W.Sink.written c.args.sink.now in
    let after = g.W.Sink.written c.take_more.new.sink in
    let error = c.in_err-take_more.field-0.0 in
    let (read, put, takes, passed, out) = c.loop.invariant.0 in
    let (more, stops, on) = c.in_err-take_more.ensures.takes in
    handed_on (λ r. IfErr r (IsCutShort m known left first to.seen before after))
    c.from_residual.result error c.from_residual.ensures.1 (
      put ++ more,
      to.seen,
      stops_reading m known mid left between.number first between.seen to.seen read put c.loop.reading.begun.items more error takes passed
          c.loop.invariant.2 stops,
      refl,
      on ∙ ap (λ o. o ++ more) out ∙ append_assoc before put more,
    )

pub returns-then-branch-clause-ok : goal.returns-then-branch-clause-ok
returns-then-branch-clause-ok g c =
    let m = session_of c.args.self.now.monitor.now (g.G.Gate.lets c.args.self.now.gate.now) in
    let first = first_sight c.args.member.now in
    let between = stand c.loop.member c.loop.reading.progress in
    let from = stand c.take_more.new.member c.take_more.new.reading.progress in
    let to = stand c.finish.new.member c.finish.new.reading.progress in
    let known = g.B.Read.remaining c.args.reader.now in
    let mid = g.B.Read.remaining c.loop.reader in
    let left = g.B.Read.remaining c.take_more.new.reader in
    let before = g.W.Sink.written c.args.sink.now in
    let begun = c.take_more.new.reading.begun.items in
    let (read, put, takes, passed, out) = c.loop.invariant.0 in
    let (text, gives, (more, on, then)) = c.in_ok-take_more.ensures.takes in
    let all = passes_on m 1 between.number from.number first between.seen from.seen read text put more c.loop.reading.begun.items begun passed on in
    told_reading m known left from to first (read ++ text) (put ++ more) begun before (g.W.Sink.written c.take_more.new.sink)
    (g.W.Sink.written c.finish.new.sink) (λ (l : Sight). l ≡ to.seen) c.finish.result
    (Consumes-trans known mid left read text takes gives) (c.in_ok-take_more.ensures.ended c.if-branch.true) all
    (then ∙ ap (λ o. o ++ more) out ∙ append_assoc before put more) refl c.finish.ensures.answers

pub returns-then-branch-clause-err : goal.returns-then-branch-clause-err
returns-then-branch-clause-err g c =
    let m = session_of c.args.self.now.monitor.now (g.G.Gate.lets c.args.self.now.gate.now) in
    let first = first_sight c.args.member.now in
    let between = stand c.loop.member c.loop.reading.progress in
    let from = stand c.take_more.new.member c.take_more.new.reading.progress in
    let to = stand c.finish.new.member c.finish.new.reading.progress in
    let known = g.B.Read.remaining c.args.reader.now in
    let mid = g.B.Read.remaining c.loop.reader in
    let left = g.B.Read.remaining c.take_more.new.reader in
    let before = g.W.Sink.written c.args.sink.now in
    let begun = c.take_more.new.reading.begun.items in
    let (read, put, takes, passed, out) = c.loop.invariant.0 in
    let (text, gives, (more, on, then)) = c.in_ok-take_more.ensures.takes in
    let all = passes_on m 1 between.number from.number first between.seen from.seen read text put more c.loop.reading.begun.items begun passed on in
    stopped_reading m known left from to first (read ++ text) (put ++ more) begun before (g.W.Sink.written c.take_more.new.sink)
    (g.W.Sink.written c.finish.new.sink) (λ (l : Sight). l ≡ to.seen) c.finish.result
    (Consumes-trans known mid left read text takes gives) (c.in_ok-take_more.ensures.ended c.if-branch.true) all
    (then ∙ ap (λ o. o ++ more) out ∙ append_assoc before put more) refl c.finish.ensures.answers
