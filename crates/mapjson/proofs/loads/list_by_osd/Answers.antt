use Rattle.std.proofs.Common.{◌∙◌, sym, arith, rules}
use mir.Syntax.{w32}
use mir.Val.{SFits}
use Rattle.std.proofs.lemmas.List.FromFn.{map-range_with_len_more}
use Rattle.std.proofs.lemmas.Int.{to_z-of_z}
use Rattle.mapjson.specs.LoadTexts.{carried_of}
use Rattle.mapjson.proofs.loads.list_by_osd.Goals as goal

pub loop-osd-preserved : goal.loop-osd-preserved
loop-osd-preserved c =
    let more = map-range_with_len_more (carried_of c.args.loads.now) 0 c.loop-osd.osd c.loop-osd.osd (omega arith) in
    let fits : SFits w32 c.carried_of.result = search rules in
    c.in_ok-push.ensures.items ∙ rw (to_z-of_z w32 c.carried_of.result fits, c.loop-osd.invariant, c.carried_of.ensures) (sym more)
