use Rattle.std.proofs.Common.{◌≡◌, ◌∙◌, ◌++◌, ap, rules, length}
use Rattle.session.specs.Sessions.{first_sight, sight_by}
use Rattle.server.specs.Serving.{unseen}
use Rattle.server.proofs.Answered.{none_yet, answered}
use Rattle.server.proofs.Played.{told_live}
use Rattle.server.proofs.playing.play_lines.Goals as goal

pub returns-clause-ok : goal.returns-clause-ok
returns-clause-ok g c =
    let old = g.W.Sink.written c.args.out.now in
    let same : first_sight c.args.asker.now.member ≡ unseen (length c.args.desk.now.monitor.now.row.cells) = search rules in
    told_live c.args.desk.now.monitor.now c.args.number (first_sight c.args.asker.now.member) (sight_by c.run_from.new.member c.run_from.new.follower) old
    (g.W.Sink.written c.write_whole.new.sink) (g.W.Sink.written c.run_from.new.sink) (g.B.Read.remaining c.args.reader.now) c.run_from.result same
    (c.in_ok-write_whole.ensures.whole ∙ ap (λ b. old ++ b) (c.bytes.ensures ∙ c.in-Some.ensures.heading)) c.run_from.ensures.ok

pub returns-clause-answered : goal.returns-clause-answered
returns-clause-answered g c =
    let same : first_sight c.args.asker.now.member ≡ unseen (length c.args.desk.now.monitor.now.row.cells) = search rules in
    answered c.args.desk.now.monitor.now (first_sight c.args.asker.now.member) (sight_by c.run_from.new.member c.run_from.new.follower) (g.B.Read.remaining c.args.reader.now)
    (g.B.Read.remaining c.run_from.new.reader) (g.W.Sink.written c.write_whole.new.sink) (g.W.Sink.written c.run_from.new.sink) c.run_from.result same
    c.run_from.ensures.ok c.run_from.ensures.err

pub returns-in_default-clause-answered : goal.returns-in_default-clause-answered
returns-in_default-clause-answered g c =
    let same : first_sight c.args.asker.now.member ≡ unseen (length c.args.desk.now.monitor.now.row.cells) = search rules in
    none_yet c.args.desk.now.monitor.now c.args.asker.now c.requires.asker.1 same

pub returns-in_err-write_whole-clause-answered : goal.returns-in_err-write_whole-clause-answered
returns-in_err-write_whole-clause-answered g c =
    let same : first_sight c.args.asker.now.member ≡ unseen (length c.args.desk.now.monitor.now.row.cells) = search rules in
    none_yet c.args.desk.now.monitor.now c.args.asker.now c.requires.asker.1 same
