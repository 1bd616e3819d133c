use Rattle.std.proofs.Common.{◌≡◌, ◌++◌, ℕ, List, refl, subst, IfErr}
use Rattle.session.specs.Answers.{Sight}
use Rattle.session.specs.Readings.{Stand, Passes, Halted}
use Rattle.session.specs.Sessions.{first_sight, session_of, stand, IsStopped}
use Rattle.session.proofs.Fresh.{fresh_stand}
use Rattle.session.proofs.Passing.{run_ok, run_err, halted_all, handed_on}
use Rattle.session.proofs.desk.Desk.run_lines.Goals as goal

pub returns-in_err-last-clause-err : goal.returns-in_err-last-clause-err
returns-in_err-last-clause-err g c =
    let m = session_of c.args.self.now.monitor.now (g.G.Gate.lets c.args.self.now.gate.now) in
    let first = first_sight c.args.member.now in
    let to = stand c.answer_lines.new.member c.answer_lines.new.progress in
    let script = c.args.script.now in
    let error = c.in_err-last.field-0.0 in
    let before = g.W.Sink.written c.args.sink.now in
    let after = g.W.Sink.written c.answer_lines.new.sink in
    let fresh = fresh_stand c.args.member.now c.args.progress.now c.requires.number c.requires.none in
    let (out, halted, on) = subst (λ (s : Stand Sight). (x : List ℕ) × Halted m error s.number s.seen script x to.seen × (after ≡ before ++ x)) fresh
    c.in_err-last.ensures.answers in
    handed_on (λ r. IfErr r (IsStopped m first script to.seen before after)) c.from_residual.result error c.from_residual.ensures.1
    (out, to.seen, halted_all m error first to.seen script out halted, refl, on)

pub returns-clause-ok : goal.returns-clause-ok
returns-clause-ok g c =
    let m = session_of c.args.self.now.monitor.now (g.G.Gate.lets c.args.self.now.gate.now) in
    let from = stand c.answer_lines.new.member c.answer_lines.new.progress in
    let script = c.args.script.now in
    let rest = c.in_ok-last.last.now in
    let before = g.W.Sink.written c.args.sink.now in
    let mid = g.W.Sink.written c.answer_lines.new.sink in
    let fresh = fresh_stand c.args.member.now c.args.progress.now c.requires.number c.requires.none in
    let (put, passed, out) = subst (λ (s : Stand Sight). (x : List ℕ) × Passes m s.number s.seen script x from.number from.seen rest × (mid ≡ before ++ x)) fresh
    c.in_ok-last.ensures.answers in
    run_ok m from (stand c.answer_last.new.member c.answer_last.new.progress) (first_sight c.args.member.now) script put rest before mid
    (g.W.Sink.written c.answer_last.new.sink) (λ (l : Sight). l ≡ (stand c.answer_last.new.member c.answer_last.new.progress).seen) c.answer_last.result passed out refl
    c.answer_last.ensures.answers

pub returns-clause-err : goal.returns-clause-err
returns-clause-err g c =
    let m = session_of c.args.self.now.monitor.now (g.G.Gate.lets c.args.self.now.gate.now) in
    let from = stand c.answer_lines.new.member c.answer_lines.new.progress in
    let script = c.args.script.now in
    let rest = c.in_ok-last.last.now in
    let before = g.W.Sink.written c.args.sink.now in
    let mid = g.W.Sink.written c.answer_lines.new.sink in
    let fresh = fresh_stand c.args.member.now c.args.progress.now c.requires.number c.requires.none in
    let (put, passed, out) = subst (λ (s : Stand Sight). (x : List ℕ) × Passes m s.number s.seen script x from.number from.seen rest × (mid ≡ before ++ x)) fresh
    c.in_ok-last.ensures.answers in
    run_err m from (stand c.answer_last.new.member c.answer_last.new.progress) (first_sight c.args.member.now) script put rest before mid
    (g.W.Sink.written c.answer_last.new.sink) (λ (l : Sight). l ≡ (stand c.answer_last.new.member c.answer_last.new.progress).seen) c.answer_last.result passed out refl
    c.answer_last.ensures.answers
