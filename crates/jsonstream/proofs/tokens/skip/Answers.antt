use Rattle.std.proofs.Common.{◌≡◌, [], ◌∷◌, ap, ◌∙◌, arith}
use Rattle.json.specs.Reads.{token_of}
use Rattle.json.proofs.Grammar.{left_some}
use Rattle.jsonstream.specs.Stream.{next}
use Rattle.jsonstream.proofs.Streams.{next_nothing}
use Rattle.jsonstream.proofs.tokens.skip.Goals as goal

pub returns-in_err-token : goal.returns-in_err-token
returns-in_err-token c =
    let empty : c.args.reader.now ≡ [] = grind arith in
    let none = ap (next c.args.depth) empty ∙ next_nothing c.args.depth in
    grind (arith, none)

pub returns : goal.returns
returns c =
    let first : c.args.reader.now ≡ token_of c.in_ok-token.token ∷ c.next_token.new.reader = grind arith in
    let passed = left_some _ c.finish.new.reader c.in_ok-finish.ensures.value in
    (passed.0, ap (next c.args.depth) first ∙ passed.1)
