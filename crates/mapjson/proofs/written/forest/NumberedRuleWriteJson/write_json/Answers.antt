use Rattle.std.proofs.Common.{◌≡◌, ◌∷◌, ◌++◌, codes, ◌∙◌, refl, rules}
use Rattle.std.proofs.lemmas.Result.{on_ok_weaker}
use Rattle.json.specs.Token.{Token}
use Rattle.serde_json.specs.Data.{string}
use Rattle.osdmap.specs.PartsOf.{rule_part}
use Rattle.mapjson.specs.Written.{number_data, list_data, step_data, use_word}
use Rattle.mapjson.specs.Pieces.{tokens_of, IsReadBack}
use Rattle.mapjson.proofs.Pieces.{behind}
use Rattle.mapjson.proofs.Objects.{rule_tokens, rule_read}
use Rattle.mapjson.proofs.written.forest.NumberedRuleWriteJson.write_json.Goals as goal

pub returns-clause-tokens : goal.returns-clause-tokens
returns-clause-tokens c =
    let p = rule_part c.args.self.now in
    let t1 : c.integer_member.new.out.tokens ≡ c.begin_object.new.self.tokens ++ Token.key (codes "id") ∷ tokens_of (number_data p.id) = search rules in
    let t2 : c.word_member.new.out.tokens ≡ c.integer_member.new.out.tokens ++ Token.key (codes "kind") ∷ tokens_of (string (use_word p.kind)) = search rules in
    let t3 : c.list_member.new.out.tokens ≡ c.word_member.new.out.tokens ++ Token.key (codes "steps") ∷ tokens_of (list_data step_data p.steps) = search rules in
    on_ok_weaker c.end_object.result (λ e. behind _ e (behind _ t3 (behind _ t2 (behind _ t1 c.in_ok-begin_object.ensures.ok))) ∙ rule_tokens p c.args.out.now.tokens) c.end_object.ensures.ok

pub returns-clause-back : goal.returns-clause-back
returns-clause-back c =
    let p = rule_part c.args.self.now in
    let r1 : IsReadBack (number_data p.id) = search rules in
    let r3 : IsReadBack (list_data step_data p.steps) = search rules in
    on_ok_weaker c.end_object.result (λ e. rule_read p (r1, (refl, (r3, tt)))) c.end_object.ensures.ok
