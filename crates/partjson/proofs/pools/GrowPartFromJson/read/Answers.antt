use Rattle.std.proofs.Common.{Some, option_map, sym, ap, ◌∙◌, arith}
use Rattle.jsonstream.specs.Json.{whole_number, three_of}
use Rattle.jsonstream.proofs.Taken.{read_on, refused_on}
use Rattle.partjson.specs.StatedMaps.{stated_growth}
use Rattle.partjson.specs.Places.{growth_at}
use Rattle.partjson.proofs.pools.GrowPartFromJson.read.Goals as goal

pub returns-in_err-places : goal.returns-in_err-places
returns-in_err-places c =
    let still = refused_on (three_of whole_number whole_number whole_number) stated_growth _ _ c.in_err-places.ensures in
    grind (arith, still)

pub returns : goal.returns
unfolding stated_growth
returns c =
    let r = c.read.new.reader in
    read_on (three_of whole_number whole_number whole_number) (option_map growth_at) _ c.in_ok-places.places r c.in_ok-places.ensures ∙ ap (λ x. Some (x, r)) (sym c.growth_of_places.ensures)
