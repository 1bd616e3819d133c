use Rattle.std.proofs.Common.{◌≡◌, ◌∷◌, ◌++◌, codes, ◌∙◌, refl, rules}
use Rattle.std.proofs.lemmas.Result.{on_ok_weaker}
use Rattle.json.specs.Token.{Token}
use Rattle.serde_json.specs.Data.{string}
use Rattle.osdmap.specs.PartsOf.{pool_part}
use Rattle.mapjson.specs.Written.{number_data, use_word}
use Rattle.mapjson.specs.Pieces.{tokens_of, IsReadBack}
use Rattle.mapjson.proofs.Pieces.{behind}
use Rattle.mapjson.proofs.Objects.{pool_tokens, pool_read}
use Rattle.mapjson.proofs.written.pools.PoolWriteJson.write_json.Goals as goal

pub returns-clause-tokens : goal.returns-clause-tokens
returns-clause-tokens c =
    let p = pool_part c.args.self.now in
    let t1 : c.integer_member.new.out.tokens ≡ c.begin_object.new.self.tokens ++ Token.key (codes "id") ∷ tokens_of (number_data p.id) = search rules in
    let t2 : c.word_member.new.out.tokens ≡ c.integer_member.new.out.tokens ++ Token.key (codes "kind") ∷ tokens_of (string (use_word p.kind)) = search rules in
    let t3 : c.integer_member-2.new.out.tokens ≡ c.word_member.new.out.tokens ++ Token.key (codes "pg_num") ∷ tokens_of (number_data p.pg_num) = search rules in
    let t4 : c.integer_member-3.new.out.tokens ≡ c.integer_member-2.new.out.tokens ++ Token.key (codes "pgp_num") ∷ tokens_of (number_data p.pgp_num) = search rules in
    let t5 : c.integer_member-4.new.out.tokens ≡ c.integer_member-3.new.out.tokens ++ Token.key (codes "rule") ∷ tokens_of (number_data p.rule) = search rules in
    let t6 : c.integer_member-5.new.out.tokens ≡ c.integer_member-4.new.out.tokens ++ Token.key (codes "size") ∷ tokens_of (number_data p.size) = search rules in
    on_ok_weaker c.end_object.result (λ e. behind _ e (behind _ t6 (behind _ t5 (behind _ t4 (behind _ t3 (behind _ t2 (behind _ t1 c.in_ok-begin_object.ensures.ok)))))) ∙ pool_tokens p c.args.out.now.tokens) c.end_object.ensures.ok

pub returns-clause-back : goal.returns-clause-back
returns-clause-back c =
    let p = pool_part c.args.self.now in
    let r1 : IsReadBack (number_data p.id) = search rules in
    let r3 : IsReadBack (number_data p.pg_num) = search rules in
    let r4 : IsReadBack (number_data p.pgp_num) = search rules in
    let r5 : IsReadBack (number_data p.rule) = search rules in
    let r6 : IsReadBack (number_data p.size) = search rules in
    on_ok_weaker c.end_object.result (λ e. pool_read p (r1, (refl, (r3, (r4, (r5, (r6, tt))))))) c.end_object.ensures.ok
