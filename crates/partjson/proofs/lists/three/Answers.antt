use Rattle.std.proofs.Common.{Some, sym, ap, ◌∙◌, subst}
use Rattle.json.specs.Json.{parse_map}
use Rattle.serde_json.specs.Data.{array, item}
use Rattle.jsonstream.specs.Stream.{ReadsEntry, triple_if}
use Rattle.jsonstream.specs.Json.{three_of}
use Rattle.jsonstream.proofs.Entries.{three_made}
use Rattle.partjson.proofs.lists.three.Goals as goal

pub returns : goal.returns
returns g c =
    let s = g.A.FromJson.stated in
    let t = g.B.FromJson.stated in
    let u = g.C.FromJson.stated in
    let d = c.args.depth in
    let x = c.in-Some.first in
    let y = c.in-Some-2.second in
    let z = c.in-Some-3.third in
    let r1 = c.next_entry.new.reader in
    let r2 = c.next_entry-2.new.reader in
    let r3 = c.next_entry-3.new.reader in
    let r = c.is_over.new.reader in
    let one : ReadsEntry s d c.args.reader.now (Some x) r1 = subst (λ o. ReadsEntry s d c.args.reader.now o r1) c.in-Some.is c.in_ok-first.ensures in
    let two : ReadsEntry t d r1 (Some y) r2 = subst (λ o. ReadsEntry t d r1 o r2) c.in-Some-2.is c.in_ok-second.ensures in
    let last : ReadsEntry u d r2 (Some z) r3 = subst (λ o. ReadsEntry u d r2 o r3) c.in-Some-3.is c.in_ok-third.ensures in
    let end = c.in_ok-over.ensures in
    let there = one.2 ∙ ap (parse_map (item one.0)) (two.2 ∙ ap (parse_map (item two.0)) (last.2 ∙ ap (parse_map (item last.0)) end.1)) in
    let made = three_made s t u x y z one.0 two.0 last.0 end.0 one.1 two.1 last.1 ∙ ap (λ b. triple_if b x y z) (sym end.2) ∙ sym c.triple.ensures in
    ap (parse_map (λ ds. three_of s t u (array ds))) there ∙ ap (λ o. Some (o, r)) made
