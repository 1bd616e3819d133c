use Rattle.std.proofs.Common.{◌≡◌, ◌∙◌, sym, ap, length, arith}
use Rattle.std.proofs.lemmas.List.FromFn.{length-map-range_with_len}
use Rattle.osdmap.specs.Maps.{osd_is_up}
use Rattle.osdmap.proofs.Accepted.{accepted}
use Rattle.osdmap.proofs.Named.{all_below}
use Rattle.pgtable.specs.After.{map_after}
use Rattle.pgtable.specs.Patches.{ups_after}
use Rattle.pgtable.proofs.Found.{few_ups, rising_tables}
use Rattle.pgtable.proofs.States.{ups_follow}
use Rattle.pgtable.proofs.table.PgTable.make_patch.Goals as goal

pub ups_after-requires-clause-down : goal.ups_after-requires-clause-down
ups_after-requires-clause-down g c =
    let u = c.args.update.now in
    let m = u.before.now.map in
    let long : length c.args.self.now.up ≡ length m.presences = ap length c.requires.up ∙ length-map-range_with_len (osd_is_up m) 0 (length m.presences) in
    rw long (all_below m u.change.now (length m.presences) (omega arith) (accepted m u.change.now c.holds.ensures.leads.lawful).osds).down

pub ups_after-requires-clause-up : goal.ups_after-requires-clause-up
ups_after-requires-clause-up g c =
    let u = c.args.update.now in
    let m = u.before.now.map in
    let long : length c.args.self.now.up ≡ length m.presences = ap length c.requires.up ∙ length-map-range_with_len (osd_is_up m) 0 (length m.presences) in
    rw long (all_below m u.change.now (length m.presences) (omega arith) (accepted m u.change.now c.holds.ensures.leads.lawful).osds).up

pub returns : goal.returns
returns g c =
    let u = c.args.update.now in
    let m = u.before.now.map in
    let holds = c.holds.ensures.leads.holds_after in
    let up = c.in_ok-up.ensures ∙ ap (λ us. ups_after us u.change.now) c.requires.up ∙ sym (ups_follow m u.change.now) in
    let lead = c.in_ok-tables.ensures.lead in
    record {
      leads = record {
        fits = record { pools = lead.fits; rise = rw lead.tables (rising_tables (map_after u) holds); few_osds = rw up (few_ups (map_after u) 4096 holds.osds.few) };
        table = record { holds = holds; pools = lead.tables; up = up };
      };
      counted = c.in_ok-tables.ensures.evals;
      runs = rw c.in_ok-tables.ensures.evals c.in_ok-tables.ensures.runs;
    }
