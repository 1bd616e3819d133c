use Rattle.std.proofs.Common.{◌∙◌, sym, arith}
use Rattle.std.proofs.lemmas.List.FromFn.{map-range_with_len_more}
use Rattle.pgtable.specs.Index.{count_of}
use Rattle.verdict.proofs.counts.counted.Goals as goal

pub loop-osd-preserved : goal.loop-osd-preserved
loop-osd-preserved c = λ m of_map.
    let counted = c.count.ensures m of_map in
    let more = map-range_with_len_more (count_of m) 0 c.loop-osd.osd c.loop-osd.osd (omega arith) in
    c.in_ok-push.ensures.items ∙ rw (c.loop-osd.invariant m of_map, counted) (sym more)
