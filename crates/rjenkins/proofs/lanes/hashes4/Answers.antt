use Rattle.std.proofs.Common.{slice_index}
use Rattle.rjenkins.proofs.FourLanes.{hash4_lane}
use Rattle.rjenkins.proofs.lanes.hashes4.Goals as goal

pub returns : goal.returns
returns c j h =
    hash4_lane c.args.a (slice_index c.args.b j) (slice_index c.args.c j) c.args.d
    (c.each.ensures j h) (c.start4-h.ensures j h) (c.mix.ensures j h)
    (c.each-2.ensures j h) (c.mix-2.ensures j h)
    (c.each-3.ensures j h) (c.mix-3.ensures j h)
    (c.each-4.ensures j h) (c.mix-4.ensures j h)
    (c.mix-5.ensures j h)
    (c.mix-6.ensures j h)
