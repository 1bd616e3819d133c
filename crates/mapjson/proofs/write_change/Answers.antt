use Rattle.std.proofs.Common.{◌≡◌, ◌++◌, Ok, IsUtf8, refl, sym, ap, subst, ◌∙◌}
use Rattle.json.specs.Lex.{tokens}
use Rattle.json.specs.Print.{print}
use Rattle.jsonstream.specs.Json.{stated_by}
use Rattle.partjson.specs.StatedChanges.{stated_change}
use Rattle.mapjson.specs.PartsOfChange.{change_parts}
use Rattle.mapjson.specs.WrittenChanges.{change_data, written_change}
use Rattle.mapjson.specs.Pieces.{tokens_of}
use Rattle.mapjson.proofs.Pieces.{read_tokens}
use Rattle.mapjson.proofs.ChangeBack.{is_written_change, states_change_parts}
use Rattle.mapjson.proofs.write_change.Goals as goal

pub returns-clause-text : goal.returns-clause-text
returns-clause-text c =
    let ts = c.write_parts.new.out.tokens in
    let d = change_data (change_parts c.args.base c.parts.result.now) in
    let text : c.into_inner.result.items ≡ print ts =
    c.into_inner.ensures.items ∙ ap (λ b. b ++ print ts) (c.write_parts.ensures.before ∙ c.new-out.ensures.before ∙ c.new.ensures.items) in
    subst (λ parts. c.into_inner.result.items ≡ written_change c.args.base parts) c.parts.ensures.value
    (is_written_change c.args.base c.parts.result.now c.into_inner.result.items ts text (c.in_ok-write_parts.ensures.tokens ∙ ap (λ us. us ++ tokens_of d) c.new-out.ensures.tokens))

pub returns-clause-utf8 : goal.returns-clause-utf8
returns-clause-utf8 c =
    let ts = c.write_parts.new.out.tokens in
    let text : c.into_inner.result.items ≡ print ts =
    c.into_inner.ensures.items ∙ ap (λ b. b ++ print ts) (c.write_parts.ensures.before ∙ c.new-out.ensures.before ∙ c.new.ensures.items) in
    subst IsUtf8 (sym text) c.into_inner.ensures.utf8

pub returns-clause-reads_back : goal.returns-clause-reads_back
returns-clause-reads_back c =
    let ts = c.write_parts.new.out.tokens in
    let p = change_parts c.args.base c.parts.result.now in
    let bytes = c.into_inner.result.items in
    let text : bytes ≡ print ts =
    c.into_inner.ensures.items ∙ ap (λ b. b ++ print ts) (c.write_parts.ensures.before ∙ c.new-out.ensures.before ∙ c.new.ensures.items) in
    let same = ap tokens text ∙ c.into_inner.ensures.reads_back ∙ c.in_ok-write_parts.ensures.tokens ∙ ap (λ us. us ++ tokens_of (change_data p)) c.new-out.ensures.tokens in
    let written = c.in_ok-write_parts.ensures in
    subst (λ parts. stated_by stated_change bytes ≡ Ok (change_parts c.args.base parts)) c.parts.ensures.value
    (states_change_parts p (change_data p) bytes written.named refl (subst IsUtf8 (sym text) c.into_inner.ensures.utf8) (read_tokens (change_data p) bytes same written.back))
