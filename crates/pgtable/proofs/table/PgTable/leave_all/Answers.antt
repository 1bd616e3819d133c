use Rattle.std.proofs.Common.{◌≡◌, ◌∙◌, None, ap, length, replicate}
use Rattle.maptypes.proofs.NamedParts.{leaving}
use Rattle.pgtable.specs.Patches.{patches_of}
use Rattle.pgtable.proofs.PatchedInPlace.{idle_leads, idle_evals, lead_in_place}
use Rattle.pgtable.proofs.table.PgTable.leave_all.Goals as goal

pub returns-clause-lead : goal.returns-clause-lead
returns-clause-lead c =
    let u = c.args.update.now in
    let m = u.before.now.map in
    let pools = c.args.self.now.pools in
    let s = leaving u.change.now (c.holds.ensures.is_source.leaves c.requires.before) in
    let first = idle_leads c.args.self.now m u.change.now u.source.now.map u.is_after c.requires.table s c.holds.ensures.leads c.holds.ensures.is_source u.groups.items c.holds.ensures.candidates c.requires.idle in
    let none : patches_of c.none-patches.result ≡ replicate (length pools) None = c.none-patches.ensures ∙ ap (λ n. replicate n None) (ap length c.pools.ensures.pools) in
    let lead = lead_in_place c.args.self.now m u.change.now (patches_of c.none-patches.result) c.requires.table s (rw none first) in
    record { fits = lead.0; tables = lead.1 }

pub returns-clause-evals : goal.returns-clause-evals
returns-clause-evals c =
    let u = c.args.update.now in
    let s = leaving u.change.now (c.holds.ensures.is_source.leaves c.requires.before) in
    idle_evals c.args.self.now u.before.now.map u.change.now u.source.now.map u.is_after c.requires.table s c.holds.ensures.leads c.holds.ensures.is_source u.groups.items c.holds.ensures.candidates c.requires.idle
