use Rattle.std.proofs.Common.{◌≡◌, ◌∷◌, ◌++◌, codes, ◌∙◌, rules}
use Rattle.std.proofs.lemmas.Result.{on_ok_weaker}
use Rattle.json.specs.Token.{Token}
use Rattle.mapjson.specs.Written.{list_data, bucket_data, rule_data}
use Rattle.mapjson.specs.PartsOfChange.{crush_parts}
use Rattle.mapjson.specs.Pieces.{tokens_of, IsReadBack}
use Rattle.mapjson.proofs.Pieces.{behind}
use Rattle.mapjson.proofs.Objects.{crush_tokens, crush_read}
use Rattle.mapjson.proofs.written.forest.CrushMapWriteJson.write_json.Goals as goal

pub returns-clause-tokens : goal.returns-clause-tokens
returns-clause-tokens c =
    let p = crush_parts c.args.self.now in
    let t1 : c.list_member.new.out.tokens ≡ c.begin_object.new.self.tokens ++ Token.key (codes "buckets") ∷ tokens_of (list_data bucket_data p.buckets) = search rules in
    let t2 : c.list_member-2.new.out.tokens ≡ c.list_member.new.out.tokens ++ Token.key (codes "rules") ∷ tokens_of (list_data rule_data p.rules) = search rules in
    on_ok_weaker c.end_object.result (λ e. behind _ e (behind _ t2 (behind _ t1 c.in_ok-begin_object.ensures.ok)) ∙ crush_tokens p c.args.out.now.tokens) c.end_object.ensures.ok

pub returns-clause-back : goal.returns-clause-back
returns-clause-back c =
    let p = crush_parts c.args.self.now in
    let r1 : IsReadBack (list_data bucket_data p.buckets) = search rules in
    let r2 : IsReadBack (list_data rule_data p.rules) = search rules in
    on_ok_weaker c.end_object.result (λ e. crush_read p (r1, (r2, tt))) c.end_object.ensures.ok
