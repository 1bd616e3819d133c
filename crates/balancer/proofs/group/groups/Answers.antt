use Rattle.std.proofs.Common.{◌∙◌, sym, arith}
use Rattle.std.proofs.lemmas.List.FromFn.{map-range_with_len_more}
use Rattle.balancer.specs.Boards.{group_at}
use Rattle.balancer.proofs.group.groups.Goals as goal

pub loop-number-preserved : goal.loop-number-preserved
loop-number-preserved c =
    let more = map-range_with_len_more (group_at c.args.map.now.map c.args.pool.now) 0 c.loop-number.number c.loop-number.number (omega arith) in
    c.in_ok-push.ensures.items ∙ rw (c.loop-number.invariant, c.group_at.ensures) (sym more)
