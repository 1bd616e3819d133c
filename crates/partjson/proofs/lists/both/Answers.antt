use Rattle.std.proofs.Common.{Some, sym, ap, ◌∙◌, subst}
use Rattle.json.specs.Json.{parse_map}
use Rattle.serde_json.specs.Data.{array, item}
use Rattle.jsonstream.specs.Stream.{ReadsEntry, pair_if}
use Rattle.jsonstream.specs.Json.{both_of}
use Rattle.jsonstream.proofs.Entries.{both_made}
use Rattle.partjson.proofs.lists.both.Goals as goal

pub returns : goal.returns
returns g c =
    let s = g.A.FromJson.stated in
    let t = g.B.FromJson.stated in
    let d = c.args.depth in
    let x = c.in-Some.first in
    let y = c.in-Some-2.second in
    let r = c.is_over.new.reader in
    let one : ReadsEntry s d c.args.reader.now (Some x) c.next_entry.new.reader = subst (λ o. ReadsEntry s d c.args.reader.now o c.next_entry.new.reader) c.in-Some.is c.in_ok-first.ensures in
    let two : ReadsEntry t d c.next_entry.new.reader (Some y) c.next_entry-2.new.reader = subst (λ o. ReadsEntry t d c.next_entry.new.reader o c.next_entry-2.new.reader) c.in-Some-2.is c.in_ok-second.ensures in
    let end = c.in_ok-over.ensures in
    let there = one.2 ∙ ap (parse_map (item one.0)) (two.2 ∙ ap (parse_map (item two.0)) end.1) in
    let made = both_made s t x y one.0 two.0 end.0 one.1 two.1 ∙ ap (λ b. pair_if b x y) (sym end.2) ∙ sym c.pair.ensures in
    ap (parse_map (λ ds. both_of s t (array ds))) there ∙ ap (λ o. Some (o, r)) made
