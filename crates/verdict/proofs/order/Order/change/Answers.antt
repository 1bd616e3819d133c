use Rattle.verdict.proofs.Ordering.{order_stays}
use Rattle.verdict.proofs.order.Order.change.Goals as goal

pub returns : goal.returns
returns c = order_stays c.args.profile c.args.self.now c.in_ok-change.change (rw (← c.in_ok-parts.ensures) c.in_ok-change.ensures)
