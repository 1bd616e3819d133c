use Rattle.std.proofs.Common.{◌≡◌, ◌-◌, length, None, Some, option_map, sym, ap, ◌∙◌, arith}
use Rattle.json.specs.Json.{after_end_array, parse_map, items, value}
use Rattle.serde_json.specs.Read.{of_items, converted}
use Rattle.jsonstream.specs.Stream.{next, rest_of_list, added}
use Rattle.jsonstream.specs.Json.{entries_of}
use Rattle.jsonstream.proofs.Streams.{item_read, item_refused, items_over}
use Rattle.jsonstream.proofs.Entries.{joined, joined_first, joined_more, joined_all, mapped_some, mapped_none, next_shorter, still_refused}
use Rattle.partjson.proofs.lists.entries.Goals as goal

pub items-init : goal.items-init
items-init g c =
    let st = g.T.FromJson.stated in
    let there = rest_of_list c.args.depth c.args.reader.now in
    (length c.args.reader.now, omega arith, joined_first st there ∙ ap (λ xs. parse_map (joined st (Some xs)) there) (sym c.new.ensures.items))

pub returns-in_err-entry : goal.returns-in_err-entry
returns-in_err-entry g c =
    let st = g.T.FromJson.stated in
    let d = c.args.depth in
    let l = c.items in
    let here : c.take_end_array.new.self ≡ l.reader = grind arith in
    let going : after_end_array l.reader ≡ None = grind arith in
    let there = rest_of_list d c.args.reader.now in
    let over = λ (none : parse_map st (next d c.take_end_array.new.self) ≡ None).
    mapped_none (entries_of st) there (l.invariant.2 ∙ ap (parse_map (joined st (option_map (λ v. v.items) l.found))) (item_refused (value d) l.invariant.0 l.reader going (mapped_none st _ (ap (λ ts. parse_map st (next d ts)) (sym here) ∙ none)))) in
    let still = still_refused _ (parse_map st (next d c.take_end_array.new.self)) there over c.in_err-entry.ensures in
    grind (arith, still)

pub items-smaller : goal.items-smaller
items-smaller g c =
    let st = g.T.FromJson.stated in
    let d = c.args.depth in
    let l = c.items in
    let here : c.take_end_array.new.self ≡ l.reader = grind arith in
    let e = mapped_some st (next d c.take_end_array.new.self) c.in_ok-entry.entry c.read.new.reader c.in_ok-entry.ensures in
    next_shorter d l.reader e.0 c.read.new.reader (ap (next d) (sym here) ∙ e.1)

pub items-preserved : goal.items-preserved
items-preserved g c =
    let st = g.T.FromJson.stated in
    let d = c.args.depth in
    let l = c.items in
    let n = l.invariant.0 in
    let r = c.read.new.reader in
    let found = option_map (λ v. v.items) l.found in
    let here : c.take_end_array.new.self ≡ l.reader = grind arith in
    let going : after_end_array l.reader ≡ None = grind arith in
    let e = mapped_some st (next d c.take_end_array.new.self) c.in_ok-entry.entry r c.in_ok-entry.ensures in
    let came = ap (next d) (sym here) ∙ e.1 in
    let less = next_shorter d l.reader e.0 r came in
    let later = converted of_items (items (value d) (n - 1) r) in
    (n - 1, omega (arith, less, l.invariant.1), l.invariant.2 ∙ ap (parse_map (joined st found)) (item_read (value d) n l.reader r e.0 (omega (arith, less, l.invariant.1)) going came) ∙ joined_more st found e.0 later ∙ ap (λ x. parse_map (joined st (added found x)) later) e.2 ∙ ap (λ xs. parse_map (joined st xs) later) (sym c.in_ok-found.ensures))

pub returns : goal.returns
returns g c =
    let st = g.T.FromJson.stated in
    let l = c.items in
    let found = option_map (λ v. v.items) l.found in
    let r = c.take_end_array.new.self in
    l.invariant.2 ∙ ap (parse_map (joined st found)) (items_over (value c.args.depth) l.invariant.0 l.reader r l.invariant.1 (grind arith)) ∙ ap (λ xs. Some (xs, r)) (joined_all st found)
