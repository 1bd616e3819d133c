use Rattle.std.proofs.Common.{◌≡◌, ◌∙◌, ◌<◌, refl, ap, length, Some, arith}
use Rattle.std.proofs.lemmas.List.{take_all}
use Rattle.std.proofs.lemmas.List.Sums.{sum_by_more, sum_by_more_le}
use Rattle.std.proofs.lemmas.Option.{slice_get_read}
use Rattle.maptypes.specs.Pools.{PoolFacts, total_groups}
use Rattle.osdmap.specs.Maps.{pool_at}
use Rattle.pgtable.specs.After.{map_after, is_touched_by, touched_pools}
use Rattle.pgtable.specs.Patches.{evals_in}
use Rattle.pgtable.proofs.Found.{found_at}
use Rattle.pgtable.proofs.MadeAnew.{Made, back_all, back_few, back_evals, kept_evals, made_before, made_now, took, untouched}
use Rattle.pgtable.proofs.Making.{make_begins, make_more, make_ends, evals_all, evals_whole}
use Rattle.pgtable.proofs.Stretching.{own_pools}
use Rattle.pgtable.proofs.table.PgTable.replace_tables.Goals as goal
use Rattle.pgtable.proofs.table.PgTable.replace_tables.Goals.{in-Some, in-None+in_ok-made-in-None}

pub tables-requires-clause-there : goal.tables-requires-clause-there
tables-requires-clause-there g c = λ κs lives.
    let u = c.args.update.now in
    let m = map_after u in
    let source = c.holds.ensures.is_source.after c.requires.after in
    rw (source, c.deref.ensures.value, c.in_ok-touched.ensures) (back_all (λ p. pool_at m.pools p.id ≡ Some p) (is_touched_by u) m.pools (own_pools m c.holds.ensures.leads.holds_after))

pub tables-requires-clause-few : goal.tables-requires-clause-few
tables-requires-clause-few g c = λ κs lives.
    let u = c.args.update.now in
    let m = map_after u in
    let touched : total_groups c.deref.result.now ≡ total_groups (touched_pools u) = ap total_groups (c.deref.ensures.value ∙ c.in_ok-touched.ensures) in
    omega (arith, touched, back_few (is_touched_by u) m.pools, c.holds.ensures.leads.holds_after.pools.few_groups)

pub loop-pool-init : goal.loop-pool-init
loop-pool-init g c =
    let u = c.args.update.now in
    let source = c.holds.ensures.is_source.after c.requires.after in
    record {
      made = make_begins c.args.self.now.pools (map_after u) c.in_ok-pools.pools.items c.in_ok-kept.kept.items c.in_ok-pools.ensures.items c.in_ok-kept.ensures.items;
      rest = c.in_ok-made_anew.ensures.tables ∙ rw (source, c.deref.ensures.value, c.in_ok-touched.ensures) refl;
      evals = refl;
      runs = omega arith;
    }

pub keep_table-requires-clause-there : goal.keep_table-requires-clause-there
keep_table-requires-clause-there g c = λ κs lives.
    let u = c.args.update.now in
    let m = map_after u in
    let items = c.pools-pool-items.ensures ∙ ap (λ n. n.pools) (c.holds.ensures.is_source.after c.requires.after) in
    let inside = rw items at c.loop-pool-test.true in
    let is = rw items at c.pool-item.is in
    found_at (λ (p : PoolFacts). p.id) m.pools c.loop-pool.pool-index c.pool-item.result c.holds.ensures.leads.holds_after.pools.rise inside is

pub keep_table-requires-clause-untouched : goal.keep_table-requires-clause-untouched
keep_table-requires-clause-untouched g c = λ κs lives.
    let u = c.args.update.now in
    let m = map_after u in
    let items = c.pools-pool-items.ensures ∙ ap (λ n. n.pools) (c.holds.ensures.is_source.after c.requires.after) in
    let inside = rw items at c.loop-pool-test.true in
    let is = rw items at c.pool-item.is in
    let taken = took m u.change.now c.loop-pool.pool-index c.pool-item.result c.loop-pool.made_anew.items c.take_last.new.tables.items c.take_last.result c.holds.ensures.leads.holds_after.pools.rise inside is c.loop-pool.invariant.rest c.take_last.ensures.own c.take_last.ensures.other in
    untouched m u.change.now c.pool-item.result c.take_last.result taken.1 c.in-None.is

pub loop-pool-preserved : goal.loop-pool-preserved
loop-pool-preserved g c =
    let u = c.args.update.now in
    let m = map_after u in
    let old = c.args.self.now.pools in
    let p = c.pool-item.result in
    let items = c.pools-pool-items.ensures ∙ ap (λ n. n.pools) (c.holds.ensures.is_source.after c.requires.after) in
    let inside : c.loop-pool.pool-index < length m.pools = rw items at c.loop-pool-test.true in
    let is = rw items at c.pool-item.is in
    let there = slice_get_read m.pools _ c.loop-pool.pool-index p refl inside is in
    let taken = took m u.change.now c.loop-pool.pool-index p c.loop-pool.made_anew.items c.take_last.new.tables.items c.take_last.result c.holds.ensures.leads.holds_after.pools.rise inside is c.loop-pool.invariant.rest c.take_last.ensures.own c.take_last.ensures.other in
    let made : Made old m u.change.now p c.loop-pool.rooms c.match-take_last.rooms c.match-take_last.made = elim c.match-take_last.branch [
      | in-Some w ↦ rw (w.rooms-is, w.made-is) (made_before old m u.change.now p c.loop-pool.rooms c.take_last.result w.in-Some.made taken.1 w.in-Some.is)
      | in-None+in_ok-made-in-None w ↦ rw (w.rooms-is, w.made-is) (made_now old m u.change.now p c.loop-pool.rooms _ c.take_last.result _ taken.1 w.in-None.is w.in_ok-made-in-None.ensures.made w.in_ok-made-in-None.ensures.evals w.in_ok-made-in-None.ensures.runs)
    ] in
    let more = make_more old m c.loop-pool.pool-index p c.loop-pool.pools.items c.loop-pool.kept.items c.match-take_last.made.table c.match-take_last.made.kept c.loop-pool.invariant.made there made.makes in
    let sum = sum_by_more (evals_in m u.change.now) m.pools c.loop-pool.pool-index p inside in
    let last = ap (evals_in m u.change.now) is in
    let runs = sum_by_more (kept_evals m u.change.now) m.pools c.loop-pool.pool-index p inside in
    let run = ap (kept_evals m u.change.now) is in
    record {
      made = rw (c.in_ok-push.ensures.items, c.in_ok-push-2.ensures.items) more;
      rest = taken.0;
      evals = omega (arith, sum, last, made.evals, c.loop-pool.invariant.evals);
      runs = omega (arith, runs, run, made.runs, c.loop-pool.invariant.runs);
    }

pub overflow_add-evals : goal.overflow_add-evals
overflow_add-evals g c =
    let u = c.args.update.now in
    let m = map_after u in
    let old = c.args.self.now.pools in
    let p = c.pool-item.result in
    let items = c.pools-pool-items.ensures ∙ ap (λ n. n.pools) (c.holds.ensures.is_source.after c.requires.after) in
    let inside : c.loop-pool.pool-index < length m.pools = rw items at c.loop-pool-test.true in
    let is = rw items at c.pool-item.is in
    let taken = took m u.change.now c.loop-pool.pool-index p c.loop-pool.made_anew.items c.take_last.new.tables.items c.take_last.result c.holds.ensures.leads.holds_after.pools.rise inside is c.loop-pool.invariant.rest c.take_last.ensures.own c.take_last.ensures.other in
    let made : Made old m u.change.now p c.loop-pool.rooms c.match-take_last.rooms c.match-take_last.made = elim c.match-take_last.branch [
      | in-Some w ↦ rw (w.rooms-is, w.made-is) (made_before old m u.change.now p c.loop-pool.rooms c.take_last.result w.in-Some.made taken.1 w.in-Some.is)
      | in-None+in_ok-made-in-None w ↦ rw (w.rooms-is, w.made-is) (made_now old m u.change.now p c.loop-pool.rooms _ c.take_last.result _ taken.1 w.in-None.is w.in_ok-made-in-None.ensures.made w.in_ok-made-in-None.ensures.evals w.in_ok-made-in-None.ensures.runs)
    ] in
    let last = ap (evals_in m u.change.now) is in
    omega (arith, sum_by_more_le (evals_in m u.change.now) m.pools c.loop-pool.pool-index p inside, last, evals_whole m u.change.now c.holds.ensures.leads.holds_after, made.evals, c.loop-pool.invariant.evals)

pub returns-clause-lead : goal.returns-clause-lead
returns-clause-lead g c =
    let u = c.args.update.now in
    let m = map_after u in
    let items = c.pools-pool-items.ensures ∙ ap (λ n. n.pools) (c.holds.ensures.is_source.after c.requires.after) in
    let past = rw items at c.loop-pool-test.false in
    let end = rw items at c.loop-pool.auto.pool-index-end in
    let e : c.loop-pool.pool-index ≡ length m.pools = omega (arith, past, end) in
    let made = make_ends c.args.self.now.pools m c.loop-pool.pools.items c.loop-pool.kept.items c.holds.ensures.leads.holds_after (rw e at c.loop-pool.invariant.made) in
    record {
      fits = record { pools = made.fits; few_pools = omega (arith, made.long, c.holds.ensures.leads.holds_after.pools.few) };
      tables = made.tables;
    }

pub returns-clause-evals : goal.returns-clause-evals
returns-clause-evals g c =
    let u = c.args.update.now in
    let m = map_after u in
    let items = c.pools-pool-items.ensures ∙ ap (λ n. n.pools) (c.holds.ensures.is_source.after c.requires.after) in
    let past = rw items at c.loop-pool-test.false in
    c.loop-pool.invariant.evals ∙ evals_all m u.change.now c.loop-pool.pool-index past

pub returns-clause-runs : goal.returns-clause-runs
returns-clause-runs g c =
    let u = c.args.update.now in
    let m = map_after u in
    let items = c.pools-pool-items.ensures ∙ ap (λ n. n.pools) (c.holds.ensures.is_source.after c.requires.after) in
    let past = rw items at c.loop-pool-test.false in
    let kept = rw (take_all c.loop-pool.pool-index m.pools past) at c.loop-pool.invariant.runs in
    let touched : total_groups c.deref.result.now ≡ total_groups (touched_pools u) = ap total_groups (c.deref.ensures.value ∙ c.in_ok-touched.ensures) in
    let all = back_evals m u.change.now m.pools in
    let whole = evals_all m u.change.now (length m.pools) (omega arith) in
    let every = rw (take_all (length m.pools) m.pools (omega arith)) at whole in
    rw (← every) (omega (arith, c.in_ok-made_anew.ensures.runs, touched, kept, all))
