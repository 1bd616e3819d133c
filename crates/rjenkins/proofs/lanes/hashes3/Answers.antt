use Rattle.std.proofs.Common.{slice_index}
use Rattle.rjenkins.proofs.FourLanes.{hash3_lane}
use Rattle.rjenkins.proofs.lanes.hashes3.Goals as goal

pub returns : goal.returns
returns c j h =
    hash3_lane c.args.a (slice_index c.args.b j) (slice_index c.args.c j)
    (c.start3-h.ensures j h) (c.each.ensures j h) (c.mix.ensures j h)
    (c.each-2.ensures j h) (c.mix-2.ensures j h)
    (c.each-3.ensures j h) (c.mix-3.ensures j h)
    (c.mix-4.ensures j h)
    (c.mix-5.ensures j h)
