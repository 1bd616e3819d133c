use Rattle.std.proofs.Common.{◌∙◌, [], ap, refl, arith}
use Rattle.pgtable.specs.After.{map_after}
use Rattle.pgtable.specs.Patches.{with_sets}
use Rattle.pgtable.proofs.Keeping.{evals_changes, lead_none}
use Rattle.pgtable.proofs.ChangedSets.{source_concerned}
use Rattle.pgtable.proofs.update.Update.patch_groups.Goals as goal

pub returns-then-not-may_concern-clause-lead : goal.returns-then-not-may_concern-clause-lead
returns-then-not-may_concern-clause-lead g c =
    let u = c.args.self.now in
    let p = c.args.pool.now in
    let numbers = source_concerned u.before.now.map u.source.now.map u.change.now p u.is_after c.holds.ensures.is_source in
    let none = c.may_concern.ensures c.if-not-may_concern.true ∙ numbers in
    lead_none u.before.now.map (map_after u) u.change.now p c.holds.ensures.leads c.requires.there c.requires.untouched c.args.groups.now [] c.requires.groups (ap (with_sets (map_after u) p) none) refl

pub returns-then-not-may_concern-clause-evals : goal.returns-then-not-may_concern-clause-evals
returns-then-not-may_concern-clause-evals g c =
    let u = c.args.self.now in
    let p = c.args.pool.now in
    let numbers = source_concerned u.before.now.map u.source.now.map u.change.now p u.is_after c.holds.ensures.is_source in
    let none = c.may_concern.ensures c.if-not-may_concern.true ∙ numbers in
    evals_changes (map_after u) u.change.now p [] 0 c.requires.untouched (ap (with_sets (map_after u) p) none) refl

pub returns-then-not-may_concern-clause-runs : goal.returns-then-not-may_concern-clause-runs
returns-then-not-may_concern-clause-runs g c =
    let u = c.args.self.now in
    let p = c.args.pool.now in
    let numbers = source_concerned u.before.now.map u.source.now.map u.change.now p u.is_after c.holds.ensures.is_source in
    let none = c.may_concern.ensures c.if-not-may_concern.true ∙ numbers in
    let evals = evals_changes (map_after u) u.change.now p [] 0 c.requires.untouched (ap (with_sets (map_after u) p) none) refl in
    omega (arith, evals)
