use Rattle.maptypes.specs.GroupText.{IsNamedByText}
use Rattle.maptypes.specs.Ordered.{IsChange}
use Rattle.maptypes.proofs.NamedParts.{each_weaker}
use Rattle.osdmap.specs.PartsOf.{pg_part}
use Rattle.mapjson.specs.Written.{IsNamed}
use Rattle.mapjson.proofs.Named.{parts_of_group}
use Rattle.map_laws.proofs.ChangeBack.{parts_named, written_change_back}
use Rattle.map_laws.proofs.change_texts.written_change_is_read_back.Goals as goal

pub returns : goal.returns
returns c =
    let change = c.args.change.now in
    let parts = c.parts in
    let is : IsChange change = record { in_order = parts.ensures.in_order; pools_within = parts.ensures.pools_within; growths_within = parts.ensures.growths_within; crush_map = parts.ensures.crush_map } in
    let named = each_weaker IsNamedByText (λ g. IsNamed (pg_part g)) change (λ g back. parts_of_group _ g back) c.groups_are_read_back.ensures in
    written_change_back change is (λ base. parts_named base change named)
