use Rattle.std.proofs.Common.{◌≡◌, [], ◌∷◌, ◌++◌, codes, ap, ◌∙◌, rules, append_assoc}
use Rattle.std.proofs.lemmas.Result.{on_ok_weaker}
use Rattle.json.specs.Token.{Token}
use Rattle.std.proofs.Common.{pos, sym}
use Rattle.std.proofs.lemmas.List.Elements.{All-map, All-same}
use Rattle.osdmap.specs.PartsOf.{pg_part, pair_part, exception_part, parts_of}
use Rattle.mapjson.specs.Written.{IsNamed, number_data, list_data, bucket_data, osd_data, exception_data, pair_data, pool_data, rule_data}
use Rattle.mapjson.specs.Pieces.{tokens_of, IsReadBack}
use Rattle.mapjson.proofs.Pieces.{behind}
use Rattle.mapjson.proofs.Objects.{map_tokens, map_read}
use Rattle.mapjson.proofs.written.map.OsdMapWriteJson.write_json.Goals as goal

pub returns-clause-tokens : goal.returns-clause-tokens
unfolding parts_of
returns-clause-tokens c =
    let p = parts_of c.args.self.now.map in
    let t1 : c.list_member.new.out.tokens ≡ c.begin_object.new.self.tokens ++ Token.key (codes "buckets") ∷ tokens_of (list_data bucket_data p.buckets) = search rules in
    let t2 : c.epoch_member.new.out.tokens ≡ c.list_member.new.out.tokens ++ Token.key (codes "epoch") ∷ tokens_of (number_data p.epoch) = search rules in
    let t3 : c.integer_member.new.out.tokens ≡ c.epoch_member.new.out.tokens ++ Token.key (codes "max_osd") ∷ tokens_of (number_data p.max_osd) = search rules in
    let key = Token.key (codes "osds") ∷ [] in
    let all = tokens_of (list_data osd_data p.osds) in
    let t4 : c.osds.new.out.tokens ≡ c.integer_member.new.out.tokens ++ Token.key (codes "osds") ∷ tokens_of (list_data osd_data p.osds) = c.in_ok-osds.ensures.tokens ∙ ap (λ ts. ts ++ all) c.in_ok-key.ensures.ok ∙ append_assoc c.integer_member.new.out.tokens key all in
    let t5 : c.list_member-2.new.out.tokens ≡ c.osds.new.out.tokens ++ Token.key (codes "pg_upmap") ∷ tokens_of (list_data (exception_data number_data) p.pg_upmap) = search rules in
    let t6 : c.list_member-3.new.out.tokens ≡ c.list_member-2.new.out.tokens ++ Token.key (codes "pg_upmap_items") ∷ tokens_of (list_data (exception_data pair_data) p.pg_upmap_items) = search rules in
    let t7 : c.list_member-4.new.out.tokens ≡ c.list_member-3.new.out.tokens ++ Token.key (codes "pools") ∷ tokens_of (list_data pool_data p.pools) = search rules in
    let t8 : c.list_member-5.new.out.tokens ≡ c.list_member-4.new.out.tokens ++ Token.key (codes "rules") ∷ tokens_of (list_data rule_data p.rules) = search rules in
    let t9 : c.integer_member-2.new.out.tokens ≡ c.list_member-5.new.out.tokens ++ Token.key (codes "version") ∷ tokens_of (number_data p.version) = search rules in
    on_ok_weaker c.end_object.result (λ e. behind _ e (behind _ t9 (behind _ t8 (behind _ t7 (behind _ t6 (behind _ t5 (behind _ t4 (behind _ t3 (behind _ t2 (behind _ t1 c.in_ok-begin_object.ensures.ok))))))))) ∙ map_tokens p c.args.out.now.tokens) c.end_object.ensures.ok

pub returns-clause-back : goal.returns-clause-back
unfolding parts_of
returns-clause-back c =
    let p = parts_of c.args.self.now.map in
    let r1 : IsReadBack (list_data bucket_data p.buckets) = search rules in
    let r2 : IsReadBack (number_data p.epoch) = search rules in
    let r3 : IsReadBack (number_data p.max_osd) = search rules in
    let r4 : IsReadBack (list_data osd_data p.osds) = search rules in
    let r5 : IsReadBack (list_data (exception_data number_data) p.pg_upmap) = search rules in
    let r6 : IsReadBack (list_data (exception_data pair_data) p.pg_upmap_items) = search rules in
    let r7 : IsReadBack (list_data pool_data p.pools) = search rules in
    let r8 : IsReadBack (list_data rule_data p.rules) = search rules in
    let r9 : IsReadBack (number_data p.version) = search rules in
    on_ok_weaker c.end_object.result (λ e. map_read p (r1, (r2, (r3, (r4, (r5, (r6, (r7, (r8, (r9, tt)))))))))) c.end_object.ensures.ok

pub returns-clause-named : goal.returns-clause-named
unfolding parts_of
returns-clause-named c =
    let m = c.args.self.now.map in
    on_ok_weaker c.end_object.result (λ e. (
      All-map (λ e. IsNamed e.pg) (exception_part pos) m.explicit (All-same (λ e. IsNamed (pg_part e.pg)) m.explicit c.explicits.result.now (sym c.explicits.ensures) c.in_ok-list_member-2.ensures.named),
      All-map (λ e. IsNamed e.pg) (exception_part pair_part) m.items (All-same (λ e. IsNamed (pg_part e.pg)) m.items c.all_items.result.now (sym c.all_items.ensures) c.in_ok-list_member-3.ensures.named),
    )) c.end_object.ensures.ok
