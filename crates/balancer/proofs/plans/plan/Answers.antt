use Rattle.std.proofs.Common.{◌∙◌}
use Rattle.balancer.specs.Shares.{aim_of}
use Rattle.balancer.specs.Requests.{asked_aim}
use Rattle.balancer.proofs.WorthOfPlans.{found_itself, made_rises, made_plan, made_lawful, made_evens, made_none}
use Rattle.balancer.proofs.plans.plan.Goals as goal

pub new-requires : goal.new-requires
new-requires c = found_itself c.args.map.now.map c.in_ok-pool.pool c.args.request.pool c.in_ok-pool.ensures.1

pub of_items-requires : goal.of_items-requires
of_items-requires c =
    let b = c.in_ok-board.board in
    made_rises c.args.map.now.map c.in_ok-pool.pool (asked_aim c.args.request) c.args.request.pool c.args.request.limit c.in_ok-pool.ensures.1 c.holds_together.ensures b.frame.map.now.map b.frame.pool (aim_of b.frame.carried.now b.frame.apart) b.moves.items
    (c.in_ok-board.ensures.frame.map ∙ c.in_ok-frame.ensures.map) (c.in_ok-board.ensures.frame.pool ∙ c.in_ok-frame.ensures.pool) (c.in_ok-board.ensures.frame.aim ∙ c.in_ok-frame.ensures.aim) b.reached c.in_ok-items.items.items c.in_ok-items.ensures

pub returns-clause-plan : goal.returns-clause-plan
returns-clause-plan c =
    let b = c.in_ok-board.board in (
      c.in_ok-pool.ensures.0,
      made_plan c.args.map.now.map c.in_ok-pool.pool (asked_aim c.args.request) c.args.request.pool c.args.request.limit c.in_ok-pool.ensures.1 c.holds_together.ensures b.frame.map.now.map b.frame.pool (aim_of b.frame.carried.now b.frame.apart) b.moves.items
          (c.in_ok-board.ensures.frame.map ∙ c.in_ok-frame.ensures.map) (c.in_ok-board.ensures.frame.pool ∙ c.in_ok-frame.ensures.pool) (c.in_ok-board.ensures.frame.aim ∙ c.in_ok-frame.ensures.aim) b.reached c.in_ok-items.items.items c.in_ok-items.ensures
          c.in_ok-change.change c.in_ok-change.ensures c.len.result (c.len.ensures ∙ b.moves.ok.0) (rw (c.in_ok-frame.ensures.map, c.in_ok-frame.ensures.pool, c.in_ok-frame.ensures.aim) at c.in_ok-board.ensures.moves),
    )

pub returns-clause-lawful : goal.returns-clause-lawful
returns-clause-lawful c =
    let b = c.in_ok-board.board in
    made_lawful c.args.map.now.map c.in_ok-pool.pool (asked_aim c.args.request) c.args.request.pool c.args.request.limit c.in_ok-pool.ensures.1 c.holds_together.ensures b.frame.map.now.map b.frame.pool (aim_of b.frame.carried.now b.frame.apart) b.moves.items
    (c.in_ok-board.ensures.frame.map ∙ c.in_ok-frame.ensures.map) (c.in_ok-board.ensures.frame.pool ∙ c.in_ok-frame.ensures.pool) (c.in_ok-board.ensures.frame.aim ∙ c.in_ok-frame.ensures.aim) b.reached c.in_ok-items.items.items c.in_ok-items.ensures
    c.in_ok-change.change c.in_ok-change.ensures c.len.result (c.len.ensures ∙ b.moves.ok.0)

pub returns-clause-evens : goal.returns-clause-evens
returns-clause-evens c =
    let b = c.in_ok-board.board in
    made_evens c.args.map.now.map c.in_ok-pool.pool (asked_aim c.args.request) c.args.request.pool c.args.request.limit c.in_ok-pool.ensures.1 c.holds_together.ensures b.frame.map.now.map b.frame.pool (aim_of b.frame.carried.now b.frame.apart) b.moves.items
    (c.in_ok-board.ensures.frame.map ∙ c.in_ok-frame.ensures.map) (c.in_ok-board.ensures.frame.pool ∙ c.in_ok-frame.ensures.pool) (c.in_ok-board.ensures.frame.aim ∙ c.in_ok-frame.ensures.aim) b.reached c.in_ok-items.items.items c.in_ok-items.ensures
    c.in_ok-change.change c.in_ok-change.ensures c.len.result (c.len.ensures ∙ b.moves.ok.0)

pub returns-clause-leaves_none : goal.returns-clause-leaves_none
returns-clause-leaves_none c =
    let b = c.in_ok-board.board in
    made_none c.args.map.now.map c.in_ok-pool.pool (asked_aim c.args.request) c.args.request.pool c.args.request.limit c.in_ok-pool.ensures.1 c.holds_together.ensures b.frame.map.now.map b.frame.pool (aim_of b.frame.carried.now b.frame.apart) b.moves.items
    (c.in_ok-board.ensures.frame.map ∙ c.in_ok-frame.ensures.map) (c.in_ok-board.ensures.frame.pool ∙ c.in_ok-frame.ensures.pool) (c.in_ok-board.ensures.frame.aim ∙ c.in_ok-frame.ensures.aim) b.reached c.in_ok-items.items.items c.in_ok-items.ensures
    c.in_ok-change.change c.in_ok-change.ensures c.len.result (c.len.ensures ∙ b.moves.ok.0) (rw (c.in_ok-frame.ensures.map, c.in_ok-frame.ensures.pool, c.in_ok-frame.ensures.aim) at c.in_ok-board.ensures.done)
