use Rattle.std.proofs.Common.{ap}
use Rattle.session.specs.Answers.{Track}
use Rattle.session.specs.Sessions.{track_of}
use Rattle.session.proofs.Told.{no_sets_told, none_begins}
use Rattle.session.proofs.following.follow_sets.Goals as goal

pub returns-in_err-need_follower-clause-tells : goal.returns-in_err-need_follower-clause-tells
returns-in_err-need_follower-clause-tells g c =
    no_sets_told c.args.monitor.now.first c.args.pool (track_of c.args.follower.now) (track_of c.need_follower.new.follower) c.from_residual.result
    (ap track_of c.in_err-need_follower.ensures.none.0) (ap track_of c.in_err-need_follower.ensures.none.1) c.from_residual.ensures.1

pub returns-in_err-need_follower-clause-meets : goal.returns-in_err-need_follower-clause-meets
returns-in_err-need_follower-clause-meets g c =
    none_begins (track_of c.need_follower.new.follower).history c.args.member.now.pass.history (ap (λ (t : Track). t.history) (ap track_of c.in_err-need_follower.ensures.none.1))
