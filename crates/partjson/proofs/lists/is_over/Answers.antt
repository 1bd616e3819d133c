use Rattle.std.proofs.Common.{◌≡◌, None, refl, sym, ap, ◌∙◌, arith}
use Rattle.json.specs.Json.{after_end_array}
use Rattle.json.proofs.Grammar.{left_some}
use Rattle.serde_json.specs.Data.{no_items}
use Rattle.jsonstream.specs.Stream.{rest_of_list}
use Rattle.jsonstream.proofs.Entries.{list_begun, list_over}
use Rattle.partjson.proofs.lists.is_over.Goals as goal

pub returns-then-take_end_array : goal.returns-then-take_end_array
returns-then-take_end_array c = (no_items, list_over c.args.depth c.args.reader.now c.take_end_array.new.self (grind arith), refl)

pub returns : goal.returns
returns c =
    let d = c.args.depth in
    let ts = c.args.reader.now in
    let here : c.take_end_array.new.self ≡ ts = grind arith in
    let going : after_end_array ts ≡ None = grind arith in
    let passed = left_some _ c.skip_list.new.reader c.in_ok-skip_list.ensures.value in
    let is = ap (rest_of_list d) (sym here) ∙ passed.1 in
    (passed.0, is, sym (list_begun d ts passed.0 c.skip_list.new.reader going is))
