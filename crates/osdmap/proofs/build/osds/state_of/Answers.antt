use Rattle.std.proofs.Common.{rules}
use Rattle.std.proofs.lemmas.Int.{to_z-of_z}
use mir.Syntax.{w128}
use mir.Val.{SFits}
use Rattle.maptypes.proofs.Narrowed.{osd_weight}
use Rattle.osdmap.proofs.build.osds.state_of.Goals as goal

pub word-requires : goal.word-requires
word-requires c =
    let fits : SFits w128 c.args.osd.now.weight = search rules in
    rw to_z-of_z (osd_weight _ c.requires)
