use Rattle.std.proofs.Common.{Some, None, option_map, ap, ◌∙◌, arith}
use Rattle.jsonstream.specs.Json.{stated_list, both_of}
use Rattle.jsonstream.proofs.Taken.{read_on, refused_on}
use Rattle.partjson.specs.StatedMaps.{stated_exception, stated_pg}
use Rattle.partjson.proofs.exceptions.ExceptionPartFromJson.read.Goals as goal

pub returns-in_err-places : goal.returns-in_err-places
returns-in_err-places g c =
    let still = refused_on (both_of stated_pg (stated_list g.E.FromJson.stated)) (stated_exception g.E.FromJson.stated) _ _ c.in_err-places.ensures in
    grind (arith, still)

pub returns-in_default : goal.returns-in_default
unfolding stated_exception
returns-in_default g c =
    let r = c.read.new.reader in
    read_on (both_of stated_pg (stated_list g.E.FromJson.stated)) (option_map (λ x. record { pg = x.0; entries = x.1 })) _ None r (c.in_ok-places.ensures ∙ ap (λ p. Some (p, r)) c.in_default.is)

pub returns : goal.returns
unfolding stated_exception
returns g c =
    let r = c.read.new.reader in
    read_on (both_of stated_pg (stated_list g.E.FromJson.stated)) (option_map (λ x. record { pg = x.0; entries = x.1 })) _ (Some (c.in-Some.pg, c.in-Some.entries)) r (c.in_ok-places.ensures ∙ ap (λ p. Some (p, r)) c.in-Some.is)
