use Rattle.std.proofs.Common.{◌≡◌, [], ◌∷◌, Some, ap, sym, ◌∙◌, arith}
use Rattle.json.specs.Token.{Token}
use Rattle.json.specs.Json.{parse_map}
use Rattle.json.specs.Reads.{token_of}
use Rattle.json.proofs.Grammar.{left_some}
use Rattle.serde_json.specs.Find.{as_bool}
use Rattle.jsonstream.specs.Stream.{next}
use Rattle.jsonstream.proofs.Streams.{next_nothing}
use Rattle.jsonstream.proofs.ValueKinds.{no_flag, is_flag, flag_taken}
use Rattle.jsonstream.proofs.tokens.flag.Goals as goal

pub returns-in_err-token : goal.returns-in_err-token
returns-in_err-token c =
    let empty : c.args.reader.now ≡ [] = grind arith in
    let none = ap (λ ts. parse_map as_bool (next c.args.depth ts)) empty ∙ ap (parse_map as_bool) (next_nothing c.args.depth) in
    grind (arith, none)

pub returns-in_default : goal.returns-in_default
returns-in_default c =
    let d = c.args.depth in
    let t = token_of c.in_ok-token.token in
    let first : c.args.reader.now ≡ t ∷ c.next_token.new.reader = grind arith in
    let passed = left_some _ c.finish.new.reader c.in_ok-finish.ensures.value in
    let none = no_flag d t c.next_token.new.reader passed.0 c.finish.new.reader (sym c.in_default.ensures) passed.1 in
    ap (λ ts. parse_map as_bool (next d ts)) first ∙ ap (parse_map as_bool) passed.1 ∙ ap (λ n. Some (n, c.finish.new.reader)) none

pub returns : goal.returns
returns c =
    let d = c.args.depth in
    let t = token_of c.in_ok-token.token in
    let r = c.next_token.new.reader in
    let first : c.args.reader.now ≡ t ∷ r = grind arith in
    let is : t ≡ Token.boolean c.in-Some.flag = is_flag t c.in-Some.flag (sym c.in-Some.ensures) in
    ap (λ ts. parse_map as_bool (next d ts)) (first ∙ ap (λ k. k ∷ r) is) ∙ flag_taken d c.in-Some.flag r
