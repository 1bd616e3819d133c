use Rattle.std.proofs.Common.{◌≡◌, ◌∙◌, ◌<◌, ◌+◌, sym, ap, length, get_or, drop}
use Rattle.std.proofs.Math.ListN.{length-set}
use Rattle.std.specs.List.{fold}
use Rattle.osdmap.specs.Changes.{with_up}
use Rattle.osdmap.proofs.AfterLemmas.{with_up-here, fold_step, below_at, get_or_read}
use Rattle.osdmap.proofs.in_place.set_up.Goals as goal

pub loop-osd-preserved : goal.loop-osd-preserved
loop-osd-preserved c =
    let osd = get_or c.args.osds.now c.loop-osd.osd-index 0 in
    let inside : osd < length c.loop-osd.presences =
    rw c.loop-osd.invariant.sized (below_at _ c.args.osds.now _ c.requires c.loop-osd-test.true) in
    let here : c.set.new.self ≡ with_up c.args.up c.loop-osd.presences osd =
    c.set.ensures ∙ rw c.deref.ensures (sym (with_up-here c.args.up c.loop-osd.presences osd _ inside (get_or_read c.loop-osd.presences osd _ _ inside))) in
    record {
      rest = c.loop-osd.invariant.rest ∙ fold_step (with_up c.args.up) c.loop-osd.presences c.args.osds.now c.loop-osd.osd-index osd c.loop-osd-test.true (get_or_read c.args.osds.now c.loop-osd.osd-index 0 osd c.loop-osd-test.true)
          ∙ ap (λ p. fold (with_up c.args.up) p (drop (c.loop-osd.osd-index + 1) c.args.osds.now)) (sym here);
      sized = rw here (length-set c.loop-osd.presences osd _ ∙ c.loop-osd.invariant.sized);
    }
