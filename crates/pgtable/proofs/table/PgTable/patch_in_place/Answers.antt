use Rattle.std.proofs.Common.{◌≡◌, ◌∙◌, ◌+◌, ◌++◌, ◌∷◌, [], ◌<◌, ◌≤◌, refl, ap, length, arith}
use Rattle.maptypes.proofs.NamedParts.{leaving}
use Rattle.std.proofs.lemmas.List.Sums.{sum_by_more, sum_by_more_le}
use Rattle.std.proofs.lemmas.Option.{slice_get_read}
use Rattle.pgtable.specs.declared.pool_table.PoolTable.{PoolTable}
use Rattle.pgtable.specs.Patches.{evals_in, patches_of}
use Rattle.pgtable.specs.After.{map_after}
use Rattle.pgtable.proofs.PatchedInPlace.{Sofar, table_at, lead_more, lead_in_place, evals_in_place, few_in_place, skipped_first, skipped_to}
use Rattle.pgtable.proofs.ChangedSets.{none_touched, pools_stay}
use Rattle.pgtable.proofs.table.PgTable.patch_in_place.Goals as goal

pub loop-at-init : goal.loop-at-init
loop-at-init g c =
    let u = c.args.update.now in
    let t = c.args.self.now in
    let s = leaving u.change.now (c.holds.ensures.is_source.leaves c.requires.before) in
    let within : c.next_concerned-at.result ≤ length t.pools = rw c.pools-tables.ensures.pools at c.next_concerned-at.ensures.within in
    let first = skipped_first t u.before.now.map u.change.now u.source.now.map u.is_after c.requires.table s c.holds.ensures.leads c.holds.ensures.is_source c.next_concerned-at.result within (rw c.pools-tables.ensures.pools at c.next_concerned-at.ensures.others) in
    record {
      inside = within;
      sofar = rw c.none-patches.ensures first;
      runs = omega (arith, first.evals);
    }

pub patch_concerned-requires-clause-groups : goal.patch_concerned-requires-clause-groups
patch_concerned-requires-clause-groups g c = λ κs within.
    let u = c.args.update.now in
    let t = c.args.self.now in
    let s = leaving u.change.now (c.holds.ensures.is_source.leaves c.requires.before) in
    let inside : c.loop-at.at < length t.pools = rw c.pools-tables.ensures.pools at c.loop-at-test.true in
    let is = rw c.pools-tables.ensures.pools at c.index-tables-at.is in
    let there = slice_get_read t.pools _ c.loop-at.at c.index-tables-at.result refl inside is in
    ap (λ (q : PoolTable). q.groups) (table_at t u.before.now.map c.loop-at.at c.index-tables-at.result c.requires.table there).0

pub patch_concerned-requires-clause-there : goal.patch_concerned-requires-clause-there
patch_concerned-requires-clause-there g c = λ κs within.
    let u = c.args.update.now in
    let t = c.args.self.now in
    let s = leaving u.change.now (c.holds.ensures.is_source.leaves c.requires.before) in
    let inside : c.loop-at.at < length t.pools = rw c.pools-tables.ensures.pools at c.loop-at-test.true in
    let is = rw c.pools-tables.ensures.pools at c.index-tables-at.is in
    let there = slice_get_read t.pools _ c.loop-at.at c.index-tables-at.result refl inside is in
    rw (pools_stay u.before.now.map u.change.now s) (table_at t u.before.now.map c.loop-at.at c.index-tables-at.result c.requires.table there).1

pub patch_concerned-requires-clause-untouched : goal.patch_concerned-requires-clause-untouched
patch_concerned-requires-clause-untouched g c = λ κs within.
    let u = c.args.update.now in
    let t = c.args.self.now in
    let s = leaving u.change.now (c.holds.ensures.is_source.leaves c.requires.before) in
    none_touched (map_after u) u.change.now _ s

pub loop-at-preserved : goal.loop-at-preserved
loop-at-preserved g c =
    let u = c.args.update.now in
    let t = c.args.self.now in
    let s = leaving u.change.now (c.holds.ensures.is_source.leaves c.requires.before) in
    let inside : c.loop-at.at < length t.pools = rw c.pools-tables.ensures.pools at c.loop-at-test.true in
    let is = rw c.pools-tables.ensures.pools at c.index-tables-at.is in
    let there = slice_get_read t.pools _ c.loop-at.at c.index-tables-at.result refl inside is in
    let q = c.index-tables-at.result in
    let at = c.loop-at.at in
    let next = c.next_concerned-at-in-loop-at.result in
    let evals = λ (q : PoolTable). evals_in (map_after u) u.change.now q.pool in
    let last = ap evals is in
    let sum = sum_by_more evals t.pools at q inside in
    let more = lead_more t.pools (map_after u) at q (patches_of c.loop-at.patches) c.in_ok-groups.groups.patch c.loop-at.invariant.sofar.made there c.in_ok-groups.ensures.lead in
    let one : Sofar t.pools (map_after u) u.change.now (at + 1) (patches_of c.loop-at.patches ++ c.in_ok-groups.groups.patch ∷ []) (c.loop-at.evals + c.in_ok-groups.groups.evals) = record {
      made = more;
      evals = omega (arith, sum, last, c.in_ok-groups.ensures.evals, c.loop-at.invariant.sofar.evals);
    } in
    let within : next ≤ length t.pools = rw c.pools-tables.ensures.pools at c.next_concerned-at-in-loop-at.ensures.within in
    let all = skipped_to t u.before.now.map u.change.now u.source.now.map u.is_after c.requires.table s c.holds.ensures.leads c.holds.ensures.is_source (at + 1) next (patches_of c.loop-at.patches ++ c.in_ok-groups.groups.patch ∷ []) (c.loop-at.evals + c.in_ok-groups.groups.evals) c.next_concerned-at-in-loop-at.ensures.from within one (rw c.pools-tables.ensures.pools at c.next_concerned-at-in-loop-at.ensures.others) in
    record {
      inside = within;
      sofar = rw (c.skip_to.ensures, c.in_ok-push.ensures) all;
      runs = omega (arith, all.evals, last, c.in_ok-groups.ensures.evals, c.loop-at.invariant.sofar.evals, c.in_ok-groups.ensures.runs, c.loop-at.invariant.runs);
    }

pub overflow_add-evals : goal.overflow_add-evals
overflow_add-evals g c =
    let u = c.args.update.now in
    let t = c.args.self.now in
    let s = leaving u.change.now (c.holds.ensures.is_source.leaves c.requires.before) in
    let inside : c.loop-at.at < length t.pools = rw c.pools-tables.ensures.pools at c.loop-at-test.true in
    let is = rw c.pools-tables.ensures.pools at c.index-tables-at.is in
    let evals = λ (q : PoolTable). evals_in (map_after u) u.change.now q.pool in
    let last = ap evals is in
    let few = few_in_place t u.before.now.map u.change.now c.requires.table s c.holds.ensures.leads.holds_after in
    omega (arith, sum_by_more_le evals t.pools c.loop-at.at c.index-tables-at.result inside, last, few, c.in_ok-groups.ensures.evals, c.loop-at.invariant.sofar.evals)

pub returns-clause-lead : goal.returns-clause-lead
returns-clause-lead g c =
    let u = c.args.update.now in
    let t = c.args.self.now in
    let s = leaving u.change.now (c.holds.ensures.is_source.leaves c.requires.before) in
    let past : length t.pools ≤ c.loop-at.at = rw c.pools-tables.ensures.pools at c.loop-at-test.false in
    let e : c.loop-at.at ≡ length t.pools = omega (arith, past, c.loop-at.invariant.inside) in
    let lead = lead_in_place t u.before.now.map u.change.now (patches_of c.loop-at.patches) c.requires.table s (rw e at c.loop-at.invariant.sofar.made) in
    record { fits = lead.0; tables = lead.1 }

pub returns-clause-evals : goal.returns-clause-evals
returns-clause-evals g c =
    let u = c.args.update.now in
    let t = c.args.self.now in
    let s = leaving u.change.now (c.holds.ensures.is_source.leaves c.requires.before) in
    let past = rw c.pools-tables.ensures.pools at c.loop-at-test.false in
    c.loop-at.invariant.sofar.evals ∙ evals_in_place t u.before.now.map u.change.now c.loop-at.at c.requires.table s past

pub returns-clause-runs : goal.returns-clause-runs
returns-clause-runs g c =
    let u = c.args.update.now in
    let t = c.args.self.now in
    let s = leaving u.change.now (c.holds.ensures.is_source.leaves c.requires.before) in
    let past = rw c.pools-tables.ensures.pools at c.loop-at-test.false in
    rw (← evals_in_place t u.before.now.map u.change.now c.loop-at.at c.requires.table s past) c.loop-at.invariant.runs
