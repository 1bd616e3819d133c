use Rattle.balancer.specs.Requests.{asked_aim}
use Rattle.monitor.proofs.Balancing.{balanced_by, adds_plan, never_spent}
use Rattle.monitor.proofs.Counting.{plan_longer}
use Rattle.monitor.proofs.locked.balance.Goals as goal

pub returns-clause-balances : goal.returns-clause-balances
returns-clause-balances g c =
    let old = c.args.state.now in
    let new = c.balance-answer.new.self in
    let was = c.map.ensures in
    let is = c.map-2.ensures in
    let done = balanced_by old c.args.request.pool (asked_aim c.args.request) c.args.request.limit (record { map = was.after; lawful = was.lawful; epoch = was.epoch }) new c.balance-answer.result
    (record { map = is.after; lawful = is.lawful; epoch = is.epoch })
    c.balance-answer.ensures.balances in
    rw (c.balance-answer.ensures.pass, c.requires.pass, ← c.requires.row) done

pub returns-clause-own : goal.returns-clause-own
returns-clause-own g c =
    let was = c.map.ensures in
    let done = adds_plan c.args.state.now c.args.request.pool (asked_aim c.args.request) c.args.request.limit
    (record { map = was.after; lawful = was.lawful; epoch = was.epoch }) c.balance-answer.new.self c.balance-answer.result
    c.balance-answer.ensures.balances in
    rw (c.balance-answer.ensures.pass, c.requires.pass) done

pub returns-clause-unspent : goal.returns-clause-unspent
returns-clause-unspent g c =
    never_spent c.args.state.now c.balance-answer.new.self c.args.request.pool (asked_aim c.args.request) c.args.request.limit c.balance-answer.result c.balance-answer.ensures.balances

pub returns-clause-longer : goal.returns-clause-longer
returns-clause-longer g c =
    let was = c.map.ensures in
    let done = adds_plan c.args.state.now c.args.request.pool (asked_aim c.args.request) c.args.request.limit
    (record { map = was.after; lawful = was.lawful; epoch = was.epoch }) c.balance-answer.new.self c.balance-answer.result
    c.balance-answer.ensures.balances in
    plan_longer c.args.state.now.first c.args.pass.now.history c.balance-answer.new.pass.history c.args.request.pool (asked_aim c.args.request) c.args.request.limit c.balance-answer.result
    (rw (c.balance-answer.ensures.pass, c.requires.pass) done)
