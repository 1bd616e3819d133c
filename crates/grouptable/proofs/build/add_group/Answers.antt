use Rattle.std.proofs.Common.{false, map, arith}
use Rattle.std.proofs.lemmas.List.{length-map}
use Rattle.grouptable.specs.Sets.{place_stored}
use Rattle.grouptable.proofs.Moves.{joined_step}
use Rattle.grouptable.proofs.build.add_group.Goals as goal

pub loop-i-preserved : goal.loop-i-preserved
loop-i-preserved c = (c.in_ok-add_at_place.ensures.all, λ osd h. joined_step osd c.args.group (map place_stored c.args.set.now) c.loop-i.i false c.osd_in.result _ _ _ (omega (arith, length-map c.args.set.now place_stored)) c.osd_in.ensures.value (c.loop-i.invariant.1 osd h) (c.in_ok-add_at_place.ensures.lists osd h))
