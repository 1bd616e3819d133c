use Rattle.std.proofs.Common.{◌≡◌, [], ◌∷◌, Some, ap, sym, ◌∙◌, arith}
use Rattle.json.specs.Token.{Token}
use Rattle.json.specs.Json.{parse_map}
use Rattle.json.specs.Reads.{token_of}
use Rattle.json.proofs.Grammar.{left_some}
use Rattle.jsonstream.specs.Stream.{next}
use Rattle.jsonstream.specs.Json.{whole_number as number_in_data}
use Rattle.jsonstream.proofs.Streams.{next_nothing}
use Rattle.jsonstream.proofs.ValueKinds.{no_number, is_number, number_taken}
use Rattle.jsonstream.proofs.tokens.number.Goals as goal

pub returns-in_err-token : goal.returns-in_err-token
returns-in_err-token c =
    let empty : c.args.reader.now ≡ [] = grind arith in
    let none = ap (λ ts. parse_map number_in_data (next c.args.depth ts)) empty ∙ ap (parse_map number_in_data) (next_nothing c.args.depth) in
    grind (arith, none)

pub returns-in_default : goal.returns-in_default
returns-in_default c =
    let d = c.args.depth in
    let t = token_of c.in_ok-token.token in
    let first : c.args.reader.now ≡ t ∷ c.next_token.new.reader = grind arith in
    let passed = left_some _ c.finish.new.reader c.in_ok-finish.ensures.value in
    let none = no_number d t c.next_token.new.reader passed.0 c.finish.new.reader (sym c.in_default.ensures) passed.1 in
    ap (λ ts. parse_map number_in_data (next d ts)) first ∙ ap (parse_map number_in_data) passed.1 ∙ ap (λ n. Some (n, c.finish.new.reader)) none

pub returns : goal.returns
returns c =
    let d = c.args.depth in
    let t = token_of c.in_ok-token.token in
    let r = c.next_token.new.reader in
    let s = c.in-Some.text.now in
    let first : c.args.reader.now ≡ t ∷ r = grind arith in
    let is : t ≡ Token.number s = is_number t s (sym c.in-Some.ensures) in
    let taken = ap (λ ts. parse_map number_in_data (next d ts)) (first ∙ ap (λ k. k ∷ r) is) ∙ number_taken d s r in
    rw taken (grind (arith, c.number_in.ensures))
