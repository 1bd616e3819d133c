use Rattle.std.proofs.Common.{◌≡◌, ◌∷◌, ◌++◌, codes, ◌∙◌, refl, rules}
use Rattle.std.proofs.lemmas.Result.{on_ok_weaker}
use Rattle.json.specs.Token.{Token}
use Rattle.serde_json.specs.Data.{string}
use Rattle.osdmap.specs.PartsOf.{bucket_part}
use Rattle.mapjson.specs.Written.{number_data, list_data, item_data, kind_word}
use Rattle.mapjson.specs.Pieces.{tokens_of, IsReadBack}
use Rattle.mapjson.proofs.Pieces.{behind}
use Rattle.mapjson.proofs.Objects.{bucket_tokens, bucket_read}
use Rattle.mapjson.proofs.written.forest.BucketWriteJson.write_json.Goals as goal

pub returns-clause-tokens : goal.returns-clause-tokens
returns-clause-tokens c =
    let p = bucket_part c.args.self.now in
    let t1 : c.integer_member.new.out.tokens ≡ c.begin_object.new.self.tokens ++ Token.key (codes "id") ∷ tokens_of (number_data p.id) = search rules in
    let t2 : c.list_member.new.out.tokens ≡ c.integer_member.new.out.tokens ++ Token.key (codes "items") ∷ tokens_of (list_data item_data p.items) = search rules in
    let t3 : c.word_member.new.out.tokens ≡ c.list_member.new.out.tokens ++ Token.key (codes "kind") ∷ tokens_of (string (kind_word p.kind)) = search rules in
    let t4 : c.integer_member-2.new.out.tokens ≡ c.word_member.new.out.tokens ++ Token.key (codes "type") ∷ tokens_of (number_data p.level) = search rules in
    on_ok_weaker c.end_object.result (λ e. behind _ e (behind _ t4 (behind _ t3 (behind _ t2 (behind _ t1 c.in_ok-begin_object.ensures.ok)))) ∙ bucket_tokens p c.args.out.now.tokens) c.end_object.ensures.ok

pub returns-clause-back : goal.returns-clause-back
returns-clause-back c =
    let p = bucket_part c.args.self.now in
    let r1 : IsReadBack (number_data p.id) = search rules in
    let r2 : IsReadBack (list_data item_data p.items) = search rules in
    let r4 : IsReadBack (number_data p.level) = search rules in
    on_ok_weaker c.end_object.result (λ e. bucket_read p (r1, (r2, (refl, (r4, tt))))) c.end_object.ensures.ok
