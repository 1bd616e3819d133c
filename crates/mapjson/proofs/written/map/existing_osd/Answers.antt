use Rattle.std.proofs.Common.{◌≡◌, ◌∷◌, ◌++◌, codes, ◌∙◌, refl, rules}
use Rattle.std.proofs.lemmas.Result.{on_ok_weaker}
use Rattle.json.specs.Token.{Token}
use Rattle.serde_json.specs.Data.{boolean}
use Rattle.osdmap.specs.PartsOf.{osd_part}
use Rattle.mapjson.specs.Written.{number_data}
use Rattle.mapjson.specs.Pieces.{tokens_of, IsReadBack}
use Rattle.mapjson.proofs.Pieces.{behind}
use Rattle.mapjson.proofs.Objects.{osd_tokens, osd_read}
use Rattle.mapjson.proofs.written.map.existing_osd.Goals as goal

pub returns-clause-tokens : goal.returns-clause-tokens
returns-clause-tokens c =
    let p = osd_part c.args.id c.args.state.now in
    let t1 : c.boolean_member.new.out.tokens ≡ c.begin_object.new.self.tokens ++ Token.key (codes "exists") ∷ tokens_of (boolean p.exists) = search rules in
    let t2 : c.integer_member.new.out.tokens ≡ c.boolean_member.new.out.tokens ++ Token.key (codes "id") ∷ tokens_of (number_data p.id) = search rules in
    let t3 : c.boolean_member-2.new.out.tokens ≡ c.integer_member.new.out.tokens ++ Token.key (codes "up") ∷ tokens_of (boolean p.up) = search rules in
    let t4 : c.integer_member-2.new.out.tokens ≡ c.boolean_member-2.new.out.tokens ++ Token.key (codes "weight") ∷ tokens_of (number_data p.weight) = search rules in
    on_ok_weaker c.end_object.result (λ e. behind _ e (behind _ t4 (behind _ t3 (behind _ t2 (behind _ t1 c.in_ok-begin_object.ensures.ok)))) ∙ osd_tokens p c.args.out.now.tokens) c.end_object.ensures.ok

pub returns-clause-back : goal.returns-clause-back
returns-clause-back c =
    let p = osd_part c.args.id c.args.state.now in
    let r2 : IsReadBack (number_data p.id) = search rules in
    let r4 : IsReadBack (number_data p.weight) = search rules in
    on_ok_weaker c.end_object.result (λ e. osd_read p (refl, (r2, (refl, (r4, tt))))) c.end_object.ensures.ok
