use Rattle.std.proofs.Common.{rules}
use Rattle.std.proofs.lemmas.Int.{to_z-of_z}
use mir.Syntax.{w128}
use mir.Val.{SFits}
use Rattle.maptypes.proofs.Narrowed.{bucket_id, bucket_level, bucket_items}
use Rattle.maptypes.proofs.forest_parts.bucket_of.Goals as goal

pub item_id-requires : goal.item_id-requires
item_id-requires c =
    let fits : SFits w128 c.args.part.now.id = search rules in
    rw to_z-of_z (bucket_id _ c.requires)

pub byte-requires : goal.byte-requires
byte-requires c =
    let fits : SFits w128 c.args.part.now.level = search rules in
    rw to_z-of_z (bucket_level _ c.requires)

pub items_of-requires : goal.items_of-requires
items_of-requires c = rw c.deref.ensures (bucket_items _ c.requires)
