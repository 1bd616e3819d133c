use Rattle.std.proofs.Common.{rules}
use Rattle.std.proofs.lemmas.Int.{to_z-of_z}
use mir.Syntax.{w128}
use mir.Val.{SFits}
use Rattle.mapparts.proofs.Within.{pair_from, pair_to}
use Rattle.maptypes.proofs.Narrowed.{osd_id_short}
use Rattle.maptypes.proofs.exception_parts.PairPartStandsForPair.entry.Goals as goal

pub short_id-requires : goal.short_id-requires
short_id-requires c =
    let fits : SFits w128 c.args.self.now.from = search rules in
    rw to_z-of_z (osd_id_short _ (pair_from _ c.requires))

pub short_id-requires-2 : goal.short_id-requires-2
short_id-requires-2 c =
    let fits : SFits w128 c.args.self.now.to = search rules in
    rw to_z-of_z (osd_id_short _ (pair_to _ c.requires))
