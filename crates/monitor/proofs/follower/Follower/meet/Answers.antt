use Rattle.std.proofs.Common.{◌-◌, subst}
use Rattle.epochlog.specs.Epochs.{OneBegins}
use Rattle.monitor.specs.Followers.{Followed}
use Rattle.monitor.proofs.Followers.{one_begins_part}
use Rattle.monitor.proofs.follower.Follower.meet.Goals as goal

pub returns-clause-begins : goal.returns-clause-begins
returns-clause-begins c =
    let f = c.self.inside in
    subst (λ (s : Followed). OneBegins s.history c.args.member.now.pass.history) c.self.view_is
    (one_begins_part (f.map.map.epoch - f.first.map.epoch) f.pass.history c.args.member.now.pass.history c.meet.ensures.begins)
