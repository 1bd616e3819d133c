use Rattle.std.proofs.Common.{Ok}
use Rattle.session.proofs.Asked.{own_change, turn_draws}
use Rattle.session.proofs.desk.Desk.change.Goals as goal

pub returns : goal.returns
returns g c = record {
  member = c.commit.ensures.turn.member;
  answers = (Ok (c.in_ok-base.base, c.in_ok-base.change), rw c.profile.ensures at c.in_ok-base.ensures, (c.commit.ensures.commits, turn_draws _ _ _ _ c.commit.ensures.turn, c.commit.ensures.own));
  own = own_change c.args.self.now.monitor.now.alone c.args.member.now.pass.history c.commit.new.member.pass.history c.in_ok-base.change
      c.commit.result c.commit.ensures.alone;
}
