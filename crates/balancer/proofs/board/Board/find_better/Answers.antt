use Rattle.std.proofs.Common.{◌∙◌, sym}
use Rattle.balancer.specs.Shares.{aim_of}
use Rattle.balancer.specs.Greedy.{after_moves}
use Rattle.balancer.specs.Boards.{may_go}
use Rattle.balancer.proofs.MarksHold.{none_found}
use Rattle.balancer.proofs.SearchCovers.{wanted_apart, found_better, found_covers, none_covers, apart_covers}
use Rattle.balancer.proofs.board.Board.find_better.Goals as goal

pub returns-then-not-are_beside-clause-covers : goal.returns-then-not-are_beside-clause-covers
returns-then-not-are_beside-clause-covers c =
    let b = c.args.self.now in
    apart_covers b.frame.map.now.map b.frame.pool (aim_of b.frame.carried.now b.frame.apart) b.moves.items b.groups.items b.deviations.items b.board c.args.from c.args.to c.args.best (sym c.are_beside.ensures.value ∙ c.if-not-are_beside.true)

pub returns-in-Some-clause-better : goal.returns-in-Some-clause-better
returns-in-Some-clause-better c =
    let b = c.args.self.now in
    found_better b.frame.map.now.map b.frame.pool (aim_of b.frame.carried.now b.frame.apart) b.moves.items b.groups.items b.deviations.items b.board c.args.from c.args.to c.in-Some.group c.args.best
    c.requires.best c.requires.from c.requires.to c.requires.wanted (sym c.are_beside.ensures.value ∙ c.if-not-are_beside.false) (sym c.first_group.ensures ∙ c.in-Some.is)

pub returns-in-Some-clause-covers : goal.returns-in-Some-clause-covers
returns-in-Some-clause-covers c =
    let b = c.args.self.now in
    found_covers b.frame.map.now.map b.frame.pool (aim_of b.frame.carried.now b.frame.apart) b.moves.items b.groups.items b.deviations.items b.board c.args.from c.args.to c.in-Some.group (sym c.first_group.ensures ∙ c.in-Some.is)

pub returns-in-None-clause-covers : goal.returns-in-None-clause-covers
returns-in-None-clause-covers c =
    let b = c.args.self.now in
    none_covers b.frame.map.now.map b.frame.pool (aim_of b.frame.carried.now b.frame.apart) b.moves.items b.groups.items b.deviations.items b.board c.args.from c.args.to c.args.best (none_found (may_go b.frame.map.now.map b.frame.pool c.args.from c.args.to) b.groups.items (sym c.first_group.ensures ∙ c.in-None.is))

pub mark_shut-requires-clause-apart : goal.mark_shut-requires-clause-apart
mark_shut-requires-clause-apart c =
    let b = c.args.self.now in
    wanted_apart (after_moves b.frame.map.now.map b.frame.pool b.moves.items) b.frame.pool (aim_of b.frame.carried.now b.frame.apart) c.args.from c.args.to c.args.best c.requires.wanted

pub mark_shut-requires-clause-none : goal.mark_shut-requires-clause-none
mark_shut-requires-clause-none c =
    let b = c.args.self.now in
    none_found (may_go b.frame.map.now.map b.frame.pool c.args.from c.args.to) b.groups.items (sym c.first_group.ensures ∙ c.in-None.is)
