use Rattle.grouptable.proofs.Moves.{left_step}
use Rattle.std.proofs.Common.{map, arith}
use Rattle.std.proofs.lemmas.List.{length-map}
use Rattle.grouptable.specs.Sets.{place_stored}
use Rattle.grouptable.proofs.merge.Merge.leave.Goals as goal

pub loop-i-preserved : goal.loop-i-preserved
loop-i-preserved c = λ osd. left_step osd c.args.exchange.now.group (map place_stored c.args.exchange.now.before.now) c.loop-i.i _ c.osd_in.result _ _ _ (omega (arith, length-map c.args.exchange.now.before.now place_stored)) c.osd_in.ensures.value (c.loop-i.invariant osd) (c.in_ok-leave_one.ensures.lists osd)
