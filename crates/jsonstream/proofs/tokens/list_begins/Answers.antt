use Rattle.std.proofs.Common.{◌≡◌, [], ◌∷◌, Some, ap, ap₂, ◌∙◌, refl, arith}
use Rattle.json.specs.Token.{Token}
use Rattle.json.specs.Json.{parse_map}
use Rattle.json.specs.Reads.{token_of}
use Rattle.json.proofs.Grammar.{left_some}
use Rattle.serde_json.specs.Find.{as_array}
use Rattle.jsonstream.specs.Stream.{next}
use Rattle.jsonstream.proofs.Streams.{next_nothing, next_list, next_too_deep}
use Rattle.jsonstream.proofs.ValueKinds.{no_list, is_begin_array}
use Rattle.jsonstream.proofs.tokens.list_begins.Goals as goal

pub returns-in_err-token : goal.returns-in_err-token
returns-in_err-token c =
    let empty : c.args.reader.now ≡ [] = grind arith in
    let none = ap (next c.args.depth) empty ∙ next_nothing c.args.depth in
    grind (arith, none)

pub returns-then-depth-eq0 : goal.returns-then-depth-eq0
returns-then-depth-eq0 c =
    let t = token_of c.in_ok-token.token in
    let r = c.next_token.new.reader in
    let first : c.args.reader.now ≡ t ∷ r = grind arith in
    let is : t ≡ Token.begin_array = is_begin_array t (grind arith) in
    let none : c.args.depth ≡ 0 = omega arith in
    (refl, ap₂ next none (first ∙ ap (λ k. k ∷ r) is) ∙ next_too_deep Token.begin_array r refl)

pub returns : goal.returns
returns c =
    let t = token_of c.in_ok-token.token in
    let r = c.next_token.new.reader in
    let first : c.args.reader.now ≡ t ∷ r = grind arith in
    let is : t ≡ Token.begin_array = is_begin_array t (grind arith) in
    (omega arith, ap (next c.args.depth) (first ∙ ap (λ k. k ∷ r) is) ∙ next_list c.args.depth r (omega arith))

pub returns-then-not-is_list : goal.returns-then-not-is_list
returns-then-not-is_list c =
    let d = c.args.depth in
    let t = token_of c.in_ok-token.token in
    let r = c.next_token.new.reader in
    let first : c.args.reader.now ≡ t ∷ r = grind arith in
    let passed = left_some _ c.finish.new.reader c.in_ok-finish.ensures.value in
    let none = no_list d t r passed.0 c.finish.new.reader (grind arith) passed.1 in
    ap (λ ts. parse_map as_array (next d ts)) first ∙ ap (parse_map as_array) passed.1 ∙ ap (λ n. Some (n, c.finish.new.reader)) none
