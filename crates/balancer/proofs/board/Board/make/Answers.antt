use Rattle.std.proofs.Common.{◌∙◌, refl, pos, arith, rules}
use Rattle.std.specs.Prelude.{◌+ℤ◌, ◌-ℤ◌}
use mir.Syntax.{w128}
use mir.Val.{SFits}
use Rattle.std.proofs.lemmas.Int.{to_z-of_z}
use Rattle.balancer.specs.Shares.{aim_of, group_weight}
use Rattle.balancer.proofs.MovesMakeEven.{reached_more}
use Rattle.balancer.proofs.RowsOfGroups.{rows_kept, rows_moved}
use Rattle.balancer.proofs.StoredMoves.{read_less, read_more, group_inside, group_room, ends_few, from_inside, to_inside, from_fits, to_fits, board_made}
use Rattle.balancer.proofs.board.Board.make.Goals as goal

pub index-requires : goal.index-requires
index-requires c =
    let b = c.args.self.now in
    let inside = group_inside b.frame.map.now.map b.frame.pool (aim_of b.frame.carried.now b.frame.apart) b.moves.items c.args.step b.groups.items b.deviations.items c.requires b.reached b.board b.frame.pool_is b.frame.weight b.frame.weight_is b.frame.weight_small b.frame.carried_small in
    omega (arith, inside, b.groups.ok.0)

pub move_group-group-requires-clause-room : goal.move_group-group-requires-clause-room
move_group-group-requires-clause-room c =
    let b = c.args.self.now in
    group_room b.frame.map.now.map b.frame.pool (aim_of b.frame.carried.now b.frame.apart) b.moves.items c.args.step b.groups.items b.deviations.items c.requires b.reached b.board b.frame.pool_is b.frame.weight b.frame.weight_is b.frame.weight_small b.frame.carried_small c.index.result.now c.index.ensures

pub move_group-group-requires-clause-ends : goal.move_group-group-requires-clause-ends
move_group-group-requires-clause-ends c =
    let b = c.args.self.now in
    ends_few b.frame.map.now.map b.frame.pool (aim_of b.frame.carried.now b.frame.apart) b.moves.items c.args.step b.groups.items b.deviations.items c.requires b.reached b.board b.frame.pool_is b.frame.weight b.frame.weight_is b.frame.weight_small b.frame.carried_small

pub index_mut-requires : goal.index_mut-requires
index_mut-requires c =
    let b = c.args.self.now in
    let inside = group_inside b.frame.map.now.map b.frame.pool (aim_of b.frame.carried.now b.frame.apart) b.moves.items c.args.step b.groups.items b.deviations.items c.requires b.reached b.board b.frame.pool_is b.frame.weight b.frame.weight_is b.frame.weight_small b.frame.carried_small in
    omega (arith, inside, b.groups.ok.0)

pub index_mut-requires-2 : goal.index_mut-requires-2
index_mut-requires-2 c =
    let b = c.args.self.now in
    let inside = from_inside b.frame.map.now.map b.frame.pool (aim_of b.frame.carried.now b.frame.apart) b.moves.items c.args.step b.groups.items b.deviations.items c.requires b.reached b.board b.frame.pool_is b.frame.weight b.frame.weight_is b.frame.weight_small b.frame.carried_small in
    omega (arith, inside, b.deviations.ok.0)

pub overflow_sub-index_mut : goal.overflow_sub-index_mut
overflow_sub-index_mut c =
    let b = c.args.self.now in
    let x_fits : SFits w128 c.index_mut-2.result.now = search rules in
    let w_fits : SFits w128 c.group_weight-weight.result = search rules in
    let fits = from_fits b.frame.map.now.map b.frame.pool (aim_of b.frame.carried.now b.frame.apart) b.moves.items c.args.step b.groups.items b.deviations.items c.requires b.reached b.board b.frame.pool_is b.frame.weight b.frame.weight_is b.frame.weight_small b.frame.carried_small c.index_mut-2.result.now c.index_mut-2.ensures.value in
    rw (read_less c.index_mut-2.result.now c.group_weight-weight.result x_fits w_fits, c.group_weight-weight.ensures) fits

pub index_mut-requires-3 : goal.index_mut-requires-3
index_mut-requires-3 c =
    let b = c.args.self.now in
    let inside = to_inside b.frame.map.now.map b.frame.pool (aim_of b.frame.carried.now b.frame.apart) b.moves.items c.args.step b.groups.items b.deviations.items c.requires b.reached b.board b.frame.pool_is b.frame.weight b.frame.weight_is b.frame.weight_small b.frame.carried_small in
    omega (arith, inside, b.deviations.ok.0)

pub overflow_add-index_mut : goal.overflow_add-index_mut
overflow_add-index_mut c =
    let b = c.args.self.now in
    let x_fits : SFits w128 c.index_mut-3.result.now = search rules in
    let w_fits : SFits w128 c.group_weight-weight.result = search rules in
    let fits = to_fits b.frame.map.now.map b.frame.pool (aim_of b.frame.carried.now b.frame.apart) b.moves.items c.args.step b.groups.items b.deviations.items c.requires b.reached b.board b.frame.pool_is b.frame.weight b.frame.weight_is b.frame.weight_small b.frame.carried_small c.index_mut-3.result.now _ c.index_mut-3.ensures.value in
    rw (read_more c.index_mut-3.result.now c.group_weight-weight.result x_fits w_fits, c.group_weight-weight.ensures) fits

pub invariant_of-self-2 : goal.invariant_of-self-2
invariant_of-self-2 c =
    let b = c.args.self.now in
    let x_fits : SFits w128 c.index_mut-2.result.now = search rules in
    let y_fits : SFits w128 c.index_mut-3.result.now = search rules in
    let w_fits : SFits w128 c.group_weight-weight.result = search rules in
    let less_fits = from_fits b.frame.map.now.map b.frame.pool (aim_of b.frame.carried.now b.frame.apart) b.moves.items c.args.step b.groups.items b.deviations.items c.requires b.reached b.board b.frame.pool_is b.frame.weight b.frame.weight_is b.frame.weight_small b.frame.carried_small c.index_mut-2.result.now c.index_mut-2.ensures.value in
    let inside = group_inside b.frame.map.now.map b.frame.pool (aim_of b.frame.carried.now b.frame.apart) b.moves.items c.args.step b.groups.items b.deviations.items c.requires b.reached b.board b.frame.pool_is b.frame.weight b.frame.weight_is b.frame.weight_small b.frame.carried_small in
    let more_fits = to_fits b.frame.map.now.map b.frame.pool (aim_of b.frame.carried.now b.frame.apart) b.moves.items c.args.step b.groups.items b.deviations.items c.requires b.reached b.board b.frame.pool_is b.frame.weight b.frame.weight_is b.frame.weight_small b.frame.carried_small c.index_mut-3.result.now _ c.index_mut-3.ensures.value in
    record {
      reached = rw c.in_ok-push.ensures.items (reached_more b.frame.map.now.map b.frame.pool (aim_of b.frame.carried.now b.frame.apart) b.moves.items c.args.step c.requires b.reached b.frame.pool_is b.frame.apart_least);
      board =
          rw (
            c.in_ok-push.ensures.items,
            c.move_group-group.ensures,
            read_less c.index_mut-2.result.now c.group_weight-weight.result x_fits w_fits,
            read_more c.index_mut-3.result.now c.group_weight-weight.result y_fits w_fits,
            c.group_weight-weight.ensures,
            to_z-of_z w128 (c.index_mut-2.result.now -ℤ pos (group_weight b.frame.map.now.map b.frame.pool)) less_fits,
            to_z-of_z w128 (c.index_mut-3.result.now +ℤ pos (group_weight b.frame.map.now.map b.frame.pool)) more_fits,
          )
          (board_made b.frame.map.now.map b.frame.pool (aim_of b.frame.carried.now b.frame.apart) b.moves.items c.args.step b.groups.items b.deviations.items c.requires b.reached b.board b.frame.pool_is b.frame.weight b.frame.weight_is b.frame.weight_small b.frame.carried_small
          c.index.result.now c.index_mut-2.result.now c.index_mut-3.result.now _ c.index.ensures c.index_mut-2.ensures.value c.index_mut-3.ensures.value);
      stand =
          rows_moved b.groups.items c.args.step.group c.move_group-group.result b.standing c.add.new.self b.stand inside c.in_ok-add.ensures.longer
          (rw c.as_slice.ensures.value at c.in_ok-add.ensures.known);
      wide = c.in_ok-add.ensures.longer.many ∙ b.wide;
    }

pub invariant_of-self : goal.invariant_of-self
invariant_of-self c =
    let b = c.args.self.now in
    let inside = group_inside b.frame.map.now.map b.frame.pool (aim_of b.frame.carried.now b.frame.apart) b.moves.items c.args.step b.groups.items b.deviations.items c.requires b.reached b.board b.frame.pool_is b.frame.weight b.frame.weight_is b.frame.weight_small b.frame.carried_small in
    record {
      reached = b.reached;
      board = b.board;
      stand = rows_kept b.groups.items c.args.step.group b.standing c.add.new.self b.stand inside c.add.ensures.longer;
      wide = c.add.ensures.longer.many ∙ b.wide;
    }

pub invariant_of-self-in-Break-branch-2 : goal.invariant_of-self-in-Break-branch-2
invariant_of-self-in-Break-branch-2 c =
    let b = c.args.self.now in
    let inside = group_inside b.frame.map.now.map b.frame.pool (aim_of b.frame.carried.now b.frame.apart) b.moves.items c.args.step b.groups.items b.deviations.items c.requires b.reached b.board b.frame.pool_is b.frame.weight b.frame.weight_is b.frame.weight_small b.frame.carried_small in
    record {
      reached = rw c.in_err-push.ensures.items b.reached;
      board = rw c.in_err-push.ensures.items b.board;
      stand = rows_kept b.groups.items c.args.step.group b.standing c.add.new.self b.stand inside c.add.ensures.longer;
      wide = c.add.ensures.longer.many ∙ b.wide;
    }

pub returns-clause-groups : goal.returns-clause-groups
returns-clause-groups c =
    let b = c.args.self.now in
    let inside = group_inside b.frame.map.now.map b.frame.pool (aim_of b.frame.carried.now b.frame.apart) b.moves.items c.args.step b.groups.items b.deviations.items c.requires b.reached b.board b.frame.pool_is b.frame.weight b.frame.weight_is b.frame.weight_small b.frame.carried_small in
    (c.index.result.now, inside, c.index.ensures, rw c.move_group-group.ensures refl)
