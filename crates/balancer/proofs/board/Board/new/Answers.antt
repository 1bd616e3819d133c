use Rattle.std.proofs.Common.{◌≡◌, ◌∙◌, length, ap, arith}
use Rattle.std.proofs.lemmas.List.FromFn.{length-map-range_with_len}
use Rattle.balancer.specs.Boards.{group_at}
use Rattle.balancer.proofs.board.Board.new.Goals as goal

pub new-requires : goal.new-requires
new-requires c =
    let map = c.args.frame.map.now.map in
    let pool = c.args.frame.pool in
    let long : length c.in_ok-groups.groups.items ≡ pool.pg_num =
    ap length c.in_ok-groups.ensures ∙ length-map-range_with_len (group_at map pool) 0 pool.pg_num in
    omega (arith, ap length c.deref.ensures.value, long, c.is_within_limits.ensures.groups_most)
