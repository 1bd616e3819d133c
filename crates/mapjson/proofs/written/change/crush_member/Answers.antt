use Rattle.std.proofs.Common.{◌≡◌, [], ◌∷◌, ◌++◌, codes, OnOk, option_map, sym, ap, subst, ◌∙◌, append_assoc, append-nil}
use Rattle.std.proofs.lemmas.Result.{on_ok_weaker}
use Rattle.json.specs.Token.{Token}
use Rattle.mapjson.specs.PartsOfChange.{crush_parts}
use Rattle.mapjson.specs.WrittenChanges.{crush_member, crush_data}
use Rattle.mapjson.specs.Pieces.{tokens_of, member_tokens}
use Rattle.mapjson.proofs.written.change.crush_member.Goals as goal

pub returns-clause-tokens : goal.returns-clause-tokens
returns-clause-tokens c =
    let ts = c.args.out.now.tokens in
    let d = crush_data (crush_parts c.in-Some.crush) in
    let key = Token.key (codes "new_crush") in
    let named : c.key.new.self.tokens ≡ ts ++ key ∷ [] = c.in_ok-key.ensures.ok in
    subst (λ o. OnOk c.write_json.result (c.write_json.new.out.tokens ≡ ts ++ member_tokens (crush_member (option_map crush_parts o)))) (sym c.in-Some.is)
    (on_ok_weaker c.write_json.result (λ e. e ∙ ap (λ us. us ++ tokens_of d) named ∙ append_assoc ts (key ∷ []) (tokens_of d) ∙ ap (λ us. ts ++ key ∷ us) (sym (append-nil (tokens_of d)))) c.write_json.ensures.tokens)
