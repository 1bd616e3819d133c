use Rattle.std.proofs.Common.{suc, take, drop, refl, subst}
use Rattle.replay.specs.Replays.{IsRefused}
use Rattle.replay.proofs.Standing.{stand_first, stand_more, split_at}
use Rattle.replay.proofs.rows.replay.Goals as goal

pub loop-row-init : goal.loop-row-init
loop-row-init c = stand_first c.args.profile c.in-Ok.map.map c.args.rows.now

pub loop-row-preserved : goal.loop-row-preserved
loop-row-preserved c =
    stand_more c.args.profile c.in-Ok.map.map c.loop-row.map.map c.make_row.new.map.map c.args.rows.now c.loop-row.row-index c.row-item.result
    c.loop-row-test.true c.row-item.is c.loop-row.invariant c.in_default.ensures.made

pub returns-in-Err-make_row : goal.returns-in-Err-make_row
returns-in-Err-make_row c =
    let rows = c.args.rows.now in
    let at = c.loop-row.row-index in
    let refused = subst (λ m. IsRefused c.args.profile m c.row-item.result c.in-Err-make_row.refusal) c.loop-row.invariant.map c.in-Err-make_row.ensures.refused in (
      c.in-Ok.map.map,
      c.in-Ok.ensures.1,
      (
        take at rows,
        c.row-item.result,
        drop (suc at) rows,
        c.loop-row.invariant.steps,
        split_at rows at c.row-item.result c.loop-row-test.true c.row-item.is,
        c.loop-row.invariant.stand,
        refl,
        refused,
      ),
    )
