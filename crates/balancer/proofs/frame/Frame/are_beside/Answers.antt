use Rattle.std.proofs.Common.{◌≡◌, false, sym, ap, ◌∙◌}
use Rattle.std.specs.List.{list_all}
use Rattle.balancer.specs.Moves.{are_beside, are_under_same}
use Rattle.balancer.proofs.UntouchedByMoves.{apart_refused}
use Rattle.balancer.proofs.frame.Frame.are_beside.Goals as goal

pub returns-clause-value : goal.returns-clause-value
unfolding are_beside
returns-clause-value c = c.are_under_same_all.ensures ∙ ap (list_all (are_under_same c.args.self.now.map.now.map c.args.some c.args.other)) c.earlier_levels.ensures

pub returns-clause-apart : goal.returns-clause-apart
returns-clause-apart c = λ no_way v from to.
    let map = c.args.self.now.map.now.map in
    let apart : are_beside map c.args.self.now.pool v.from v.to ≡ false = rw (from, to) (sym (returns-clause-value c) ∙ no_way) in
    apart_refused map c.args.self.now.pool v apart
