use Rattle.std.proofs.Common.{◌≡◌, length, rules}
use Rattle.session.specs.Sessions.{first_sight}
use Rattle.server.specs.Serving.{unseen}
use Rattle.server.proofs.Answered.{none_yet}
use Rattle.server.proofs.playing.play_streams.Goals as goal

pub returns-in-Err-clause-answered : goal.returns-in-Err-clause-answered
returns-in-Err-clause-answered g c =
    let same : first_sight c.args.asker.now.member ≡ unseen (length c.args.stage.now.desk.monitor.now.row.cells) = search rules in
    none_yet c.args.stage.now.desk.monitor.now c.args.asker.now c.requires.1 same
