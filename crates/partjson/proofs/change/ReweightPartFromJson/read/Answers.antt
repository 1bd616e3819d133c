use Rattle.std.proofs.Common.{Some, option_map, sym, ap, ◌∙◌, arith}
use Rattle.jsonstream.specs.Json.{whole_number, both_of}
use Rattle.jsonstream.proofs.Taken.{read_on, refused_on}
use Rattle.partjson.specs.StatedChanges.{reweight_of}
use Rattle.partjson.specs.Places.{reweight_at}
use Rattle.partjson.proofs.change.ReweightPartFromJson.read.Goals as goal

pub returns-in_err-places : goal.returns-in_err-places
returns-in_err-places c =
    let still = refused_on (both_of whole_number whole_number) reweight_of _ _ c.in_err-places.ensures in
    grind (arith, still)

pub returns : goal.returns
unfolding reweight_of
returns c =
    let r = c.read.new.reader in
    read_on (both_of whole_number whole_number) (option_map reweight_at) _ c.in_ok-places.places r c.in_ok-places.ensures ∙ ap (λ x. Some (x, r)) (sym c.reweight_of_places.ensures)
