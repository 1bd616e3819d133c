use Rattle.std.proofs.Common.{◌≡◌, None, sym, ap, ◌∙◌, arith}
use Rattle.json.specs.Json.{after_end_array, parse_map}
use Rattle.jsonstream.specs.Stream.{next, rest_of_list}
use Rattle.jsonstream.proofs.Entries.{mapped_some, mapped_none, still_refused, list_more, list_refused, list_over}
use Rattle.partjson.proofs.lists.next_entry.Goals as goal

pub returns-then-take_end_array : goal.returns-then-take_end_array
returns-then-take_end_array g c = list_over c.args.depth c.args.reader.now c.take_end_array.new.self (grind arith)

pub returns-in_err-entry : goal.returns-in_err-entry
returns-in_err-entry g c =
    let st = g.T.FromJson.stated in
    let d = c.args.depth in
    let ts = c.args.reader.now in
    let here : c.take_end_array.new.self ≡ ts = grind arith in
    let going : after_end_array ts ≡ None = grind arith in
    let over = λ (none : parse_map st (next d c.take_end_array.new.self) ≡ None).
    list_refused d ts going (mapped_none st _ (ap (λ us. parse_map st (next d us)) (sym here) ∙ none)) in
    let still = still_refused _ (parse_map st (next d c.take_end_array.new.self)) (rest_of_list d ts) over c.in_err-entry.ensures in
    grind (arith, still)

pub returns : goal.returns
returns g c =
    let st = g.T.FromJson.stated in
    let d = c.args.depth in
    let ts = c.args.reader.now in
    let r = c.read.new.reader in
    let here : c.take_end_array.new.self ≡ ts = grind arith in
    let going : after_end_array ts ≡ None = grind arith in
    let e = mapped_some st (next d c.take_end_array.new.self) c.in_ok-entry.entry r c.in_ok-entry.ensures in
    (e.0, e.2, list_more d ts r e.0 going (ap (next d) (sym here) ∙ e.1))
