use Rattle.maptypes.proofs.Narrowed.{forest_limits}
use Rattle.maptypes.proofs.crush_map.forest_of.Goals as goal

pub of_fitting-requires : goal.of_fitting-requires
of_fitting-requires c =
    rw c.in_ok-buckets.ensures (forest_limits c.args.parts.now c.args.max_osd c.requires.fits c.requires.count c.requires.some c.requires.few)
