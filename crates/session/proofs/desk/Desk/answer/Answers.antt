use Rattle.std.proofs.Common.{◌∙◌, ap, sym, subst, append-nil, []}
use Rattle.std.specs.Option.{option_map}
use Rattle.mapparts.specs.declared.profile.Profile.{Profile}
use Rattle.session.specs.Commands.{command_of, known_in}
use Rattle.session.specs.Answers.{Does}
use Rattle.session.specs.Replies.{reply_text}
use Rattle.session.specs.Sessions.{sight_by, session_of, basis_of}
use Rattle.session.specs.Texts.{line_of}
use Rattle.session.proofs.Replies.{some_text}
use Rattle.session.proofs.Passing.{held_line, told_line}
use Rattle.session.proofs.desk.Desk.answer.Goals as goal

pub returns-then-not-pass-clause-answers : goal.returns-then-not-pass-clause-answers
returns-then-not-pass-clause-answers g c =
    let m = session_of c.args.self.now.monitor.now (g.G.Gate.lets c.args.self.now.gate.now) in
    let held = subst (g.G.Gate.lets c.args.self.now.gate.now c.args.progress.now.number) c.if-not-pass.true c.pass.ensures in
    ([], held_line m _ _ _ (some_text _ _ c.is_empty.ensures c.if-is_empty.false) held, sym (append-nil _))

pub returns-clause-answers : goal.returns-clause-answers
returns-clause-answers g c =
    let m = session_of c.args.self.now.monitor.now (g.G.Gate.lets c.args.self.now.gate.now) in
    let passed = subst (g.G.Gate.lets c.args.self.now.gate.now c.args.progress.now.number) c.if-not-pass.false c.pass.ensures in
    let before = sight_by c.args.member.now c.args.progress.now.follower in
    let now = sight_by c.do_command-reply.new.member c.do_command-reply.new.follower in
    let answer = line_of reply_text c.do_command-reply.result in
    let done = c.do_command-reply.ensures in
    let known = c.known_in-command.ensures ∙ (ap (λ (p : Profile). known_in p (option_map command_of c.args.line.command)) c.profile.ensures
    ∙ ap (known_in c.args.self.now.monitor.now.profile) c.args.line.read) in
    let does = subst (λ k. Does (basis_of c.args.self.now.monitor.now) before k answer now) known done.does in
    told_line m (record { number = c.args.progress.now.number; seen = before }) (record { number = c.args.progress.now.number; seen = now })
    c.args.line.text.now answer _ _ c.tell_reply.result (some_text _ _ c.is_empty.ensures c.if-is_empty.false) passed (does, done.own) c.tell_reply.ensures.out
