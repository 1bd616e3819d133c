use Rattle.std.proofs.Common.{rules}
use Rattle.std.proofs.lemmas.Int.{to_z-of_z}
use mir.Syntax.{w128}
use mir.Val.{SFits}
use Rattle.mapparts.proofs.Within.{osd_id_word}
use Rattle.maptypes.proofs.exception_parts.I128StandsForU32.entry.Goals as goal

pub word-requires : goal.word-requires
word-requires c =
    let fits : SFits w128 c.args.self.now = search rules in
    rw to_z-of_z (osd_id_word _ c.requires)
