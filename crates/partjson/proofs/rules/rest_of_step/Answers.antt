use Rattle.std.proofs.Common.{Some, sym, ap, ap₂, ◌∙◌, subst}
use Rattle.json.specs.Json.{parse_map}
use Rattle.serde_json.specs.Data.{array, item}
use Rattle.jsonstream.specs.Json.{whole_number, entries_of}
use Rattle.jsonstream.specs.Stream.{ReadsEntry, rest_of_list}
use Rattle.jsonstream.proofs.Entries.{mapped_some}
use Rattle.partjson.specs.StatedMaps.{stated_step}
use Rattle.partjson.specs.Steps.{step_word_of, step_if}
use Rattle.partjson.proofs.Steps.{step_is}
use Rattle.partjson.proofs.rules.rest_of_step.Goals as goal

pub returns : goal.returns
returns c =
    let d = c.args.depth in
    let r = c.entries.new.reader in
    let one : ReadsEntry step_word_of d c.args.reader.now (Some c.in-Some.word) c.next_entry.new.reader = subst (λ o. ReadsEntry step_word_of d c.args.reader.now o c.next_entry.new.reader) c.in-Some.is c.in_ok-word.ensures in
    let rest = mapped_some (entries_of whole_number) (rest_of_list d c.next_entry.new.reader) _ r c.in_ok-numbers.ensures in
    let there = one.2 ∙ ap (parse_map (item one.0)) rest.1 in
    let made = step_is one.0 rest.0 ∙ ap₂ step_if one.1 rest.2 ∙ sym c.step_of_list.ensures in
    ap (parse_map (λ ds. stated_step (array ds))) there ∙ ap (λ o. Some (o, r)) made
