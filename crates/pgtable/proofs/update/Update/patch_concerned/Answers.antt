use Rattle.std.proofs.Common.{◌∙◌, [], ap, refl, sym, arith}
use Rattle.pgtable.specs.After.{map_after}
use Rattle.pgtable.specs.Patches.{with_sets}
use Rattle.pgtable.proofs.Keeping.{concerned_within, evals_concerned, evals_changes, changes_within, changes_fit, changes_ascend, lead_none, lead_some}
use Rattle.pgtable.proofs.ChangedSets.{source_concerned, no_entries}
use Rattle.pgtable.proofs.update.Update.patch_concerned.Goals as goal

pub with_sets-requires-clause-inside : goal.with_sets-requires-clause-inside
with_sets-requires-clause-inside g c = λ κs lives.
    let u = c.args.self.now in
    rw (c.deref-2.ensures.value ∙ c.in_ok-numbers.ensures) (concerned_within u.source.now.map u.change.now c.args.pool.now)

pub prepare-requires-clause-within : goal.prepare-requires-clause-within
prepare-requires-clause-within g c =
    let u = c.args.self.now in
    let p = c.args.pool.now in
    let numbers = source_concerned u.before.now.map u.source.now.map u.change.now p u.is_after c.holds.ensures.is_source in
    let changes = rw (c.deref-2.ensures.value ∙ c.in_ok-numbers.ensures ∙ numbers) at c.in_ok-changes.ensures.changes in
    rw (c.requires.groups, changes) (changes_within u.before.now.map (map_after u) u.change.now p)

pub prepare-requires-clause-fits : goal.prepare-requires-clause-fits
prepare-requires-clause-fits g c =
    let u = c.args.self.now in
    let p = c.args.pool.now in
    let numbers = source_concerned u.before.now.map u.source.now.map u.change.now p u.is_after c.holds.ensures.is_source in
    let changes = rw (c.deref-2.ensures.value ∙ c.in_ok-numbers.ensures ∙ numbers) at c.in_ok-changes.ensures.changes in
    rw (c.requires.groups, changes) (changes_fit (map_after u) u.change.now p c.holds.ensures.leads.holds_after c.requires.there)

pub prepare-requires-clause-ascending : goal.prepare-requires-clause-ascending
prepare-requires-clause-ascending g c =
    let u = c.args.self.now in
    let p = c.args.pool.now in
    let numbers = source_concerned u.before.now.map u.source.now.map u.change.now p u.is_after c.holds.ensures.is_source in
    let changes = rw (c.deref-2.ensures.value ∙ c.in_ok-numbers.ensures ∙ numbers) at c.in_ok-changes.ensures.changes in
    rw changes (changes_ascend (map_after u) u.change.now p)

pub returns-then-is_empty-clause-lead : goal.returns-then-is_empty-clause-lead
returns-then-is_empty-clause-lead g c =
    let u = c.args.self.now in
    let p = c.args.pool.now in
    let numbers = source_concerned u.before.now.map u.source.now.map u.change.now p u.is_after c.holds.ensures.is_source in
    let empty = no_entries c.in_ok-numbers.numbers.items _ _ c.is_empty.ensures c.if-is_empty.true (omega (arith, c.in_ok-numbers.numbers.ok)) in
    let none = sym empty ∙ c.in_ok-numbers.ensures ∙ numbers in
    lead_none u.before.now.map (map_after u) u.change.now p c.holds.ensures.leads c.requires.there c.requires.untouched c.args.groups.now [] c.requires.groups (ap (with_sets (map_after u) p) none) refl

pub returns-then-is_empty-clause-evals : goal.returns-then-is_empty-clause-evals
returns-then-is_empty-clause-evals g c =
    let u = c.args.self.now in
    let p = c.args.pool.now in
    let numbers = source_concerned u.before.now.map u.source.now.map u.change.now p u.is_after c.holds.ensures.is_source in
    let empty = no_entries c.in_ok-numbers.numbers.items _ _ c.is_empty.ensures c.if-is_empty.true (omega (arith, c.in_ok-numbers.numbers.ok)) in
    let none = sym empty ∙ c.in_ok-numbers.ensures ∙ numbers in
    evals_changes (map_after u) u.change.now p [] 0 c.requires.untouched (ap (with_sets (map_after u) p) none) refl

pub returns-then-is_empty-clause-runs : goal.returns-then-is_empty-clause-runs
returns-then-is_empty-clause-runs g c =
    let u = c.args.self.now in
    let p = c.args.pool.now in
    let numbers = source_concerned u.before.now.map u.source.now.map u.change.now p u.is_after c.holds.ensures.is_source in
    let empty = no_entries c.in_ok-numbers.numbers.items _ _ c.is_empty.ensures c.if-is_empty.true (omega (arith, c.in_ok-numbers.numbers.ok)) in
    let none = sym empty ∙ c.in_ok-numbers.ensures ∙ numbers in
    let evals = evals_changes (map_after u) u.change.now p [] 0 c.requires.untouched (ap (with_sets (map_after u) p) none) refl in
    omega (arith, evals)

pub returns-clause-lead : goal.returns-clause-lead
returns-clause-lead g c =
    let u = c.args.self.now in
    let p = c.args.pool.now in
    let numbers = source_concerned u.before.now.map u.source.now.map u.change.now p u.is_after c.holds.ensures.is_source in
    let changes = rw (c.deref-2.ensures.value ∙ c.in_ok-numbers.ensures ∙ numbers) at c.in_ok-changes.ensures.changes in
    lead_some u.before.now.map (map_after u) u.change.now p c.holds.ensures.leads c.requires.there c.requires.untouched c.args.groups.now c.in_ok-patch.patch c.requires.groups (ap (λ v. v.items) c.in_ok-patch.ensures.made ∙ changes) c.in_ok-patch.ensures.fits

pub returns-clause-evals : goal.returns-clause-evals
returns-clause-evals g c =
    let u = c.args.self.now in
    let p = c.args.pool.now in
    let numbers = source_concerned u.before.now.map u.source.now.map u.change.now p u.is_after c.holds.ensures.is_source in
    let changes = rw (c.deref-2.ensures.value ∙ c.in_ok-numbers.ensures ∙ numbers) at c.in_ok-changes.ensures.changes in
    evals_changes (map_after u) u.change.now p c.in_ok-changes.changes.items _ c.requires.untouched changes (omega (arith, c.in_ok-changes.changes.ok))

pub returns-clause-runs : goal.returns-clause-runs
returns-clause-runs g c =
    let u = c.args.self.now in
    let p = c.args.pool.now in
    let numbers = source_concerned u.before.now.map u.source.now.map u.change.now p u.is_after c.holds.ensures.is_source in
    rw (evals_concerned (map_after u) u.change.now p c.requires.untouched) (rw (c.deref-2.ensures.value ∙ c.in_ok-numbers.ensures ∙ numbers) at c.in_ok-changes.ensures.runs)
