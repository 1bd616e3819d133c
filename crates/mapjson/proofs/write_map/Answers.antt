use Rattle.std.proofs.Common.{◌≡◌, ◌++◌, IsUtf8, refl, sym, ap, subst, ◌∙◌}
use Rattle.json.specs.Lex.{tokens}
use Rattle.json.specs.Print.{print}
use Rattle.osdmap.specs.PartsOf.{parts_of}
use Rattle.mapjson.specs.Written.{map_data}
use Rattle.mapjson.specs.Pieces.{tokens_of}
use Rattle.mapjson.proofs.Pieces.{read_tokens}
use Rattle.mapjson.proofs.Texted.{is_written, states_parts}
use Rattle.mapjson.proofs.Versions.{own_version}
use Rattle.mapjson.proofs.write_map.Goals as goal

pub returns-clause-text : goal.returns-clause-text
returns-clause-text c =
    let ts = c.write_json.new.out.tokens in
    let m = c.args.map.now.map in
    let text : c.into_inner.result.items ≡ print ts =
    c.into_inner.ensures.items ∙ ap (λ b. b ++ print ts) (c.write_json.ensures.before ∙ c.new-out.ensures.before ∙ c.new.ensures.items) in
    is_written m c.into_inner.result.items ts text (c.in_ok-write_json.ensures.tokens ∙ ap (λ us. us ++ tokens_of (map_data (parts_of m))) c.new-out.ensures.tokens)

pub returns-clause-utf8 : goal.returns-clause-utf8
returns-clause-utf8 c =
    let ts = c.write_json.new.out.tokens in
    let text : c.into_inner.result.items ≡ print ts =
    c.into_inner.ensures.items ∙ ap (λ b. b ++ print ts) (c.write_json.ensures.before ∙ c.new-out.ensures.before ∙ c.new.ensures.items) in
    subst IsUtf8 (sym text) c.into_inner.ensures.utf8

pub returns-clause-reads_back : goal.returns-clause-reads_back
returns-clause-reads_back c =
    let ts = c.write_json.new.out.tokens in
    let p = parts_of c.args.map.now.map in
    let text : c.into_inner.result.items ≡ print ts =
    c.into_inner.ensures.items ∙ ap (λ b. b ++ print ts) (c.write_json.ensures.before ∙ c.new-out.ensures.before ∙ c.new.ensures.items) in
    let same = ap tokens text ∙ c.into_inner.ensures.reads_back ∙ c.in_ok-write_json.ensures.tokens ∙ ap (λ us. us ++ tokens_of (map_data p)) c.new-out.ensures.tokens in
    let written = c.in_ok-write_json.ensures in
    states_parts p (map_data p) c.into_inner.result.items written.named.0 written.named.1 (own_version c.args.map.now.map) refl (subst IsUtf8 (sym text) c.into_inner.ensures.utf8)
    (read_tokens (map_data p) c.into_inner.result.items same written.back)
