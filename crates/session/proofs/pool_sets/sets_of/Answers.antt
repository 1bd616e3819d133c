use Rattle.std.proofs.Common.{◌∙◌, ◌+◌, sym, ap}
use Rattle.osdmap.specs.Maps.{pool_at}
use Rattle.pgtable.specs.Index.{up_at}
use Rattle.monitor.specs.Followers.{Followed}
use Rattle.session.proofs.PoolSets.{sets_more, group_within, run_more, runs_short}
use Rattle.session.proofs.pool_sets.sets_of.Goals as goal

pub loop-number-preserved : goal.loop-number-preserved
loop-number-preserved c =
    let m = c.args.follower.now.map in
    let p = pool_at m.pools c.args.pool in
    let n = c.loop-number.number in
    let (text, low, same) = c.loop-number.invariant in
    let there = c.in-Ok.ensures.answer.1.1 ∙ ap (λ (f : Followed). up_at f.map (record { pool = c.args.pool; number = n })) same in (
      c.in_ok-push_shown-in-Ok.ensures ∙ rw text (sym (sets_more m p n _ there)),
      group_within m p n _ there,
      run_more c.args.follower.now c.loop-number.follower c.up.new.self n same c.in-Ok.ensures.run,
    )

pub returns-in_err-push_shown-in-Ok-clause-runs : goal.returns-in_err-push_shown-in-Ok-clause-runs
returns-in_err-push_shown-in-Ok-clause-runs c =
    let m = c.args.follower.now.map in
    let p = pool_at m.pools c.args.pool in
    let n = c.loop-number.number in
    let (text, low, same) = c.loop-number.invariant in
    let there = c.in-Ok.ensures.answer.1.1 ∙ ap (λ (f : Followed). up_at f.map (record { pool = c.args.pool; number = n })) same in
    runs_short p c.args.follower.now.runs c.up.new.self.runs (n + 1) c.from_residual.result c.from_residual.ensures.1 (group_within m p n _ there)
    (ap (λ (f : Followed). f.runs) (run_more c.args.follower.now c.loop-number.follower c.up.new.self n same c.in-Ok.ensures.run))
