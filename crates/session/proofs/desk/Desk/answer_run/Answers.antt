use Rattle.std.proofs.Common.{Bool, List, ◌+◌, ◌++◌, ◌∷◌, Err, refl, ap, arith}
use Rattle.std.specs.declared.vec.Vec.{Vec}
use Rattle.std.specs.declared.alloc.Global.{Global}
use Rattle.monitor.specs.Members.{draws_made}
use Rattle.session.specs.declared.reply.Speaker.TheVariants.{Monitor}
use Rattle.session.specs.Answers.{Sight}
use Rattle.session.specs.Readings.{AnswersLines, Stand}
use Rattle.session.specs.Replies.{answer_text}
use Rattle.session.specs.Sessions.{sight_by, session_of, basis_of, stand, stand_in}
use Rattle.session.specs.Texts.{line_of, refusal_text}
use Rattle.session.proofs.Asked.{takes_question, answers_question, some_line, asks_refused, asks_there, same_sight, own_same}
use Rattle.session.proofs.Passing.{passes_line, told_line, halted_line, handed_on, lines_more}
use Rattle.session.proofs.desk.Desk.answer_run.Goals as goal
use Rattle.session.proofs.desk.Desk.answer_run.Goals.{in-Ok-tell_answer, in-Err-tell_answer}

-- the list of a vector of marks
abbrev own_of : Vec Bool Global → List Bool
own_of own = own.items

pub returns-in-Err-clause-answers : goal.returns-in-Err-clause-answers
returns-in-Err-clause-answers g c =
    let m = session_of c.args.self.now.monitor.now (g.G.Gate.lets c.args.self.now.gate.now) in
    let basis = basis_of c.args.self.now.monitor.now in
    let number = c.args.progress.now.number in
    let before = sight_by c.args.member.now c.args.progress.now.follower in
    let now = sight_by c.share.new.member c.args.progress.now.follower in
    let line = c.args.asking.line.now in
    let question = c.args.asking.question in
    let answer = refusal_text c.in-Err.refusal in
    let own = own_same basis.alone c.args.member.now.pass c.share.new.member.pass answer c.share.ensures.turn.alone in
    let asked = asks_refused basis before.member now.member question c.in-Err.refusal c.share.ensures.turn.goes_on c.in-Err.ensures.turn.spent.0
    c.in-Err.ensures.turn.spent.1 (ap draws_made c.in-Err.ensures.turn.spent.2) (ap own_of c.share.ensures.turn.own) in
    let answered = answers_question basis before now line question answer c.requires.asks.1 asked refl own in
    let taken = takes_question basis (g.G.Gate.lets c.args.self.now.gate.now) number before now line question answer c.requires.shares.0 c.requires.asks.1 answered in
    (answer, passes_line m number before now line c.args.asking.rest.now answer c.requires.asks.0 taken, c.in_ok-tell_answer-in-Err.ensures.out)

pub returns-in_err-tell_answer-in-Err-clause-answers : goal.returns-in_err-tell_answer-in-Err-clause-answers
returns-in_err-tell_answer-in-Err-clause-answers g c =
    let m = session_of c.args.self.now.monitor.now (g.G.Gate.lets c.args.self.now.gate.now) in
    let basis = basis_of c.args.self.now.monitor.now in
    let from = stand c.args.member.now c.args.progress.now in
    let now = stand c.share.new.member c.args.progress.now in
    let line = c.args.asking.line.now in
    let others = c.args.asking.rest.now in
    let question = c.args.asking.question in
    let answer = refusal_text c.in-Err.refusal in
    let error = c.in_err-tell_answer-in-Err.field-0.0 in
    let before = g.W.Sink.written c.args.sink.now in
    let after = g.W.Sink.written c.tell_answer.new.sink in
    let own = own_same basis.alone c.args.member.now.pass c.share.new.member.pass answer c.share.ensures.turn.alone in
    let asked = asks_refused basis from.seen.member now.seen.member question c.in-Err.refusal c.share.ensures.turn.goes_on c.in-Err.ensures.turn.spent.0
    c.in-Err.ensures.turn.spent.1 (ap draws_made c.in-Err.ensures.turn.spent.2) (ap own_of c.share.ensures.turn.own) in
    let answered = answers_question basis from.seen now.seen line question answer c.requires.asks.1 asked refl own in
    let (cut, stopped, more) = told_line m from now line answer before after (Err error) (some_line line question c.requires.asks.1)
    (c.requires.shares.0 from.number) answered c.in_err-tell_answer-in-Err.ensures.out in
    handed_on (AnswersLines m from now (line ++ 10 ∷ others) (λ rest. rest.now) before after) c.from_residual.result error c.from_residual.ensures.1
    (cut, halted_line m error from.number from.seen now.seen line others cut c.requires.asks.0 stopped, more)

pub returns-clause-answers : goal.returns-clause-answers
returns-clause-answers g c =
    let m = session_of c.args.self.now.monitor.now (g.G.Gate.lets c.args.self.now.gate.now) in
    let basis = basis_of c.args.self.now.monitor.now in
    let from = stand c.args.member.now c.args.progress.now in
    let shared = c.in-Ok.shared in
    let now = stand_in shared c.share.new.member c.args.progress.now in
    let line = c.args.asking.line.now in
    let others = c.args.asking.rest.now in
    let question = c.args.asking.question in
    let answer = line_of (answer_text Monitor) c.answer-found.result in
    let own = own_same basis.alone c.args.member.now.pass c.share.new.member.pass answer c.share.ensures.turn.alone in
    let once = c.in-Ok.ensures.turn.once in
    let asked = asks_there basis from.seen.member now.seen.member question c.answer-found.result c.share.ensures.turn.goes_on
    c.answer-found.ensures.finds c.answer-found.ensures.unspent (omega (arith, once)) (omega (arith, once)) (ap own_of c.share.ensures.turn.own) in
    let answered = answers_question basis from.seen now.seen line question answer c.requires.asks.1 asked refl own in
    let taken = takes_question basis (g.G.Gate.lets c.args.self.now.gate.now) from.number from.seen now.seen line question answer
    c.requires.shares.0 c.requires.asks.1 answered in
    let before = g.W.Sink.written c.args.sink.now in
    let mid = g.W.Sink.written c.tell_answer-2.new.sink in
    let passed = passes_line m from.number from.seen now.seen line others answer c.requires.asks.0 taken in
    elim c.match-tell_answer.branch [
      | in-Ok-tell_answer w ↦
          let between : Stand Sight = record { number = from.number + 1; seen = now.seen } in
          let to = stand_in shared c.share.new.member w.answer_more-done.new.progress in
          let same = same_sight shared c.give_back.new.member c.share.new.member w.answer_more-done.new.progress.follower w.answer_more-done.new.progress.follower
          c.give_back.ensures.pass c.give_back.ensures.own c.give_back.ensures.draws refl in
          rw (w.done-is, w.progress-is, w.sink-is, same)
          (lines_more m from between to (line ++ 10 ∷ others) answer others before mid (g.W.Sink.written w.answer_more-done.new.sink) (λ rest. rest.now)
          w.answer_more-done.result passed w.in-Ok-tell_answer.ensures.out w.answer_more-done.ensures.answers)
      | in-Err-tell_answer w ↦
          let same = same_sight shared c.give_back.new.member c.share.new.member c.args.progress.now.follower c.args.progress.now.follower c.give_back.ensures.pass c.give_back.ensures.own c.give_back.ensures.draws refl in
          let error = w.in-Err-tell_answer.error in
          let (cut, stopped, more) = told_line m from now line answer before mid (Err error) (some_line line question c.requires.asks.1)
          (c.requires.shares.0 from.number) answered w.in-Err-tell_answer.ensures.out in
          rw (w.done-is, w.progress-is, w.sink-is, same)
          (cut, halted_line m error from.number from.seen now.seen line others cut c.requires.asks.0 stopped, more)
    ]
