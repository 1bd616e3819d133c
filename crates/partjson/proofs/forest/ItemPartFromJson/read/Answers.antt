use Rattle.std.proofs.Common.{Some, option_map, sym, ap, ◌∙◌, arith}
use Rattle.jsonstream.specs.Json.{whole_number, both_of}
use Rattle.jsonstream.proofs.Taken.{read_on, refused_on}
use Rattle.partjson.specs.StatedMaps.{stated_item}
use Rattle.partjson.specs.Places.{item_placed}
use Rattle.partjson.proofs.forest.ItemPartFromJson.read.Goals as goal

pub returns-in_err-places : goal.returns-in_err-places
returns-in_err-places c =
    let still = refused_on (both_of whole_number whole_number) stated_item _ _ c.in_err-places.ensures in
    grind (arith, still)

pub returns : goal.returns
unfolding stated_item
returns c =
    let r = c.read.new.reader in
    read_on (both_of whole_number whole_number) (option_map item_placed) _ c.in_ok-places.places r c.in_ok-places.ensures ∙ ap (λ x. Some (x, r)) (sym c.item_of_places.ensures)
