use Rattle.std.proofs.Common.{◌≡◌, ◌∙◌, sym, refl, length, get_or, nat_abs, rules, arith, false, true}
use Rattle.std.proofs.lemmas.Int.{to_z-of_z}
use mir.Syntax.{w128}
use mir.Val.{SFits}
use Rattle.keylist.proofs.Each.{list_all-at}
use Rattle.mapparts.specs.Parts.{osd_fits}
use Rattle.maptypes.proofs.Narrowed.{osd_id}
use Rattle.std.proofs.Math.ListN.{length-set}
use Rattle.std.proofs.lemmas.List.{get_or_default}
use Rattle.osdmap.specs.Built.{state_of}
use Rattle.osdmap.proofs.Listing.{no_osd, row_is, osd_below, blank_new, blank_row, taken, entered_new, entered_row, all_new, all_entered}
use Rattle.osdmap.proofs.build.osds.enter.Goals as goal

pub loop-osd-init : goal.loop-osd-init
loop-osd-init c = record {
  rest = blank_new c.args.osds.now _ c.requires.blank c.requires.below;
  sized = refl;
  entered = blank_row _ c.requires.blank;
}

pub word-row-requires : goal.word-row-requires
word-row-requires c =
    let o = get_or c.args.osds.now c.loop-osd.osd-index no_osd in
    let fits : SFits w128 o.id = search rules in
    rw to_z-of_z (osd_id o (list_all-at osd_fits c.args.osds.now c.loop-osd.osd-index no_osd c.loop-osd-test.true c.requires.fits))

pub returns-then-is_some-clause-distinct : goal.returns-then-is_some-clause-distinct
returns-then-is_some-clause-distinct c =
    let o = get_or c.args.osds.now c.loop-osd.osd-index no_osd in
    let fits : SFits w128 o.id = search rules in
    let row : c.word-row.result ≡ nat_abs o.id = rw to_z-of_z at c.word-row.ensures in
    let room = osd_below c.args.osds.now c.loop-osd.osd-index _ (length c.loop-osd.rows.items) c.requires.below c.loop-osd-test.true c.loop-osd.invariant.sized in
    let is : o ≡ get_or c.args.osds.now c.loop-osd.osd-index o = get_or_default c.args.osds.now c.loop-osd.osd-index no_osd o c.loop-osd-test.true in
    let full = row_is c.loop-osd.rows.items (nat_abs o.id) _ _ true row room c.index.ensures (sym c.if-is_some.true ∙ c.is_some.ensures) in
    sym (c.loop-osd.invariant.rest ∙ taken c.loop-osd.rows.items c.args.osds.now c.loop-osd.osd-index o c.loop-osd-test.true is full)

pub loop-osd-preserved : goal.loop-osd-preserved
loop-osd-preserved c =
    let o = get_or c.args.osds.now c.loop-osd.osd-index no_osd in
    let fits : SFits w128 o.id = search rules in
    let row : c.word-row.result ≡ nat_abs o.id = rw to_z-of_z at c.word-row.ensures in
    let room = osd_below c.args.osds.now c.loop-osd.osd-index _ (length c.loop-osd.rows.items) c.requires.below c.loop-osd-test.true c.loop-osd.invariant.sized in
    let is : o ≡ get_or c.args.osds.now c.loop-osd.osd-index o = get_or_default c.args.osds.now c.loop-osd.osd-index no_osd o c.loop-osd-test.true in
    let free = row_is c.loop-osd.rows.items (nat_abs o.id) _ _ false row room c.index.ensures (sym c.if-is_some.false ∙ c.is_some.ensures) in
    let state : c.state_of.result ≡ state_of o = c.state_of.ensures in
    record {
      rest = rw (row, state) (c.loop-osd.invariant.rest ∙ entered_new c.loop-osd.rows.items c.args.osds.now c.loop-osd.osd-index o c.loop-osd-test.true is (state_of o) free);
      sized = length-set _ _ _ ∙ c.loop-osd.invariant.sized;
      entered = rw (row, state) (λ n lt.
          entered_row c.loop-osd.rows.items c.args.osds.now c.loop-osd.osd-index o c.loop-osd-test.true is room free c.loop-osd.invariant.entered n (rw length-set at lt));
    }

pub returns-clause-distinct : goal.returns-clause-distinct
returns-clause-distinct c = sym (c.loop-osd.invariant.rest ∙ all_new _ c.args.osds.now c.loop-osd.osd-index (omega arith))

pub returns-clause-entered : goal.returns-clause-entered
returns-clause-entered c = λ _. all_entered _ c.args.osds.now c.loop-osd.osd-index _ (omega arith) c.loop-osd.invariant.sized c.loop-osd.invariant.entered
