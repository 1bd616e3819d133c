use Rattle.std.proofs.Common.{◌∙◌, sym, arith}
use Rattle.std.proofs.lemmas.List.FromFn.{map-range_with_len_more}
use Rattle.osdmap.specs.Maps.{osd_is_up}
use Rattle.pgtable.proofs.table.ups_of.Goals as goal

pub loop-osd-preserved : goal.loop-osd-preserved
loop-osd-preserved c =
    let more = map-range_with_len_more (osd_is_up c.args.map.now.map) 0 c.loop-osd.osd c.loop-osd.osd (omega arith) in
    c.in_ok-push.ensures.items ∙ rw (c.loop-osd.invariant, c.is_up.ensures) (sym more)
