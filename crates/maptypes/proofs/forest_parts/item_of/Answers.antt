use Rattle.std.proofs.Common.{rules}
use Rattle.std.proofs.lemmas.Int.{to_z-of_z}
use mir.Syntax.{w128}
use mir.Val.{SFits}
use Rattle.maptypes.proofs.Narrowed.{item_id, item_weight}
use Rattle.maptypes.proofs.forest_parts.item_of.Goals as goal

pub item_id-requires : goal.item_id-requires
item_id-requires c =
    let fits : SFits w128 c.args.part.now.id = search rules in
    rw to_z-of_z (item_id _ c.requires)

pub word-requires : goal.word-requires
word-requires c =
    let fits : SFits w128 c.args.part.now.weight = search rules in
    rw to_z-of_z (item_weight _ c.requires)
