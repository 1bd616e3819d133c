use Rattle.balancer.specs.Shares.{aim_of}
use Rattle.session.proofs.Asked.{own_plan, turn_draws}
use Rattle.session.proofs.desk.Desk.balance_by.Goals as goal

pub returns : goal.returns
returns g c = record {
  member = c.balance.ensures.turn.member;
  answers = (c.balance.ensures.balances, turn_draws _ _ _ _ c.balance.ensures.turn, c.balance.ensures.own);
  own = own_plan c.args.self.now.monitor.now.first c.args.self.now.monitor.now.alone c.args.member.now.pass.history
      c.balance.new.member.pass.history c.args.plan.pool (aim_of c.args.carried.now c.args.apart) c.args.plan.limit c.balance.result c.balance.ensures.alone;
}
