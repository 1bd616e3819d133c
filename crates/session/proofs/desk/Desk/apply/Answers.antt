use Rattle.std.proofs.Common.{Ok}
use Rattle.session.proofs.Asked.{own_change, turn_draws}
use Rattle.session.proofs.desk.Desk.apply.Goals as goal

pub returns : goal.returns
returns g c = record {
  member = c.apply.ensures.turn.member;
  answers = (Ok c.in_ok-change.change, rw c.profile.ensures at c.in_ok-change.ensures, (c.apply.ensures.applies, turn_draws _ _ _ _ c.apply.ensures.turn, c.apply.ensures.own));
  own = own_change c.args.self.now.monitor.now.alone c.args.member.now.pass.history c.apply.new.member.pass.history c.in_ok-change.change
      c.apply.result c.apply.ensures.alone;
}
