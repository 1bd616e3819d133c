use Rattle.std.proofs.Common.{◌≡◌, ◌∷◌, ◌++◌, codes, OnOk, map, subst, ◌∙◌, rules}
use Rattle.std.proofs.lemmas.Result.{on_ok_weaker}
use Rattle.json.specs.Token.{Token}
use Rattle.std.proofs.Common.{pos, sym}
use Rattle.std.proofs.lemmas.List.Elements.{All-map, All-same}
use Rattle.osdmap.specs.PartsOf.{pool_part, pg_part, pair_part, exception_part}
use Rattle.mapjson.specs.Written.{IsNamed, number_data, list_data, exception_data, pair_data, pool_data, group_data}
use Rattle.mapjson.specs.WrittenChanges.{reweight_data}
use Rattle.mapjson.specs.PartsOfChange.{reweight_part, change_parts}
use Rattle.mapjson.specs.WrittenChanges.{last_members}
use Rattle.mapjson.specs.Pieces.{tokens_of, IsReadBack}
use Rattle.mapjson.proofs.Pieces.{put_all-is, behind}
use Rattle.mapjson.proofs.written.change.last_members.Goals as goal

pub returns-clause-tokens : goal.returns-clause-tokens
returns-clause-tokens c =
    let p = change_parts 0 c.args.parts.now in
    let t1 : c.list_member.new.out.tokens ≡ c.args.out.now.tokens ++ Token.key (codes "new_items") ∷ tokens_of (list_data (exception_data pair_data) p.items.come) = subst (λ xs. c.list_member.new.out.tokens ≡ c.args.out.now.tokens ++ Token.key (codes "new_items") ∷ tokens_of (list_data (exception_data pair_data) (map (exception_part pair_part) xs))) c.deref.ensures c.in_ok-list_member.ensures.tokens in
    let t2 : c.list_member-2.new.out.tokens ≡ c.list_member.new.out.tokens ++ Token.key (codes "new_pools") ∷ tokens_of (list_data pool_data p.pools.come) = subst (λ xs. c.list_member-2.new.out.tokens ≡ c.list_member.new.out.tokens ++ Token.key (codes "new_pools") ∷ tokens_of (list_data pool_data (map pool_part xs))) c.deref-2.ensures c.in_ok-list_member-2.ensures.tokens in
    let t3 : c.list_member-3.new.out.tokens ≡ c.list_member-2.new.out.tokens ++ Token.key (codes "new_upmap") ∷ tokens_of (list_data (exception_data number_data) p.explicit.come) = subst (λ xs. c.list_member-3.new.out.tokens ≡ c.list_member-2.new.out.tokens ++ Token.key (codes "new_upmap") ∷ tokens_of (list_data (exception_data number_data) (map (exception_part pos) xs))) c.deref-3.ensures c.in_ok-list_member-3.ensures.tokens in
    let t4 : c.list_member-4.new.out.tokens ≡ c.list_member-3.new.out.tokens ++ Token.key (codes "old_items") ∷ tokens_of (list_data group_data p.items.gone) = subst (λ xs. c.list_member-4.new.out.tokens ≡ c.list_member-3.new.out.tokens ++ Token.key (codes "old_items") ∷ tokens_of (list_data group_data (map pg_part xs))) c.deref-4.ensures c.in_ok-list_member-4.ensures.tokens in
    let t5 : c.list_member-5.new.out.tokens ≡ c.list_member-4.new.out.tokens ++ Token.key (codes "old_pools") ∷ tokens_of (list_data number_data p.pools.gone) = subst (λ xs. c.list_member-5.new.out.tokens ≡ c.list_member-4.new.out.tokens ++ Token.key (codes "old_pools") ∷ tokens_of (list_data number_data (map pos xs))) c.deref-5.ensures c.in_ok-list_member-5.ensures.tokens in
    let t6 : c.list_member-6.new.out.tokens ≡ c.list_member-5.new.out.tokens ++ Token.key (codes "old_upmap") ∷ tokens_of (list_data group_data p.explicit.gone) = subst (λ xs. c.list_member-6.new.out.tokens ≡ c.list_member-5.new.out.tokens ++ Token.key (codes "old_upmap") ∷ tokens_of (list_data group_data (map pg_part xs))) c.deref-6.ensures c.in_ok-list_member-6.ensures.tokens in
    let t7 : c.list_member-7.new.out.tokens ≡ c.list_member-6.new.out.tokens ++ Token.key (codes "up") ∷ tokens_of (list_data number_data p.osds.up) = subst (λ xs. c.list_member-7.new.out.tokens ≡ c.list_member-6.new.out.tokens ++ Token.key (codes "up") ∷ tokens_of (list_data number_data (map pos xs))) c.deref-7.ensures c.in_ok-list_member-7.ensures.tokens in
    let last : OnOk c.list_member-8.result (c.list_member-8.new.out.tokens ≡ c.list_member-7.new.out.tokens ++ Token.key (codes "weight") ∷ tokens_of (list_data reweight_data p.weights)) = on_ok_weaker c.list_member-8.result (λ e. subst (λ xs. c.list_member-8.new.out.tokens ≡ c.list_member-7.new.out.tokens ++ Token.key (codes "weight") ∷ tokens_of (list_data reweight_data (map reweight_part xs))) c.deref-8.ensures e) c.list_member-8.ensures.tokens in
    on_ok_weaker c.list_member-8.result (λ e. behind _ e (behind _ t7 (behind _ t6 (behind _ t5 (behind _ t4 (behind _ t3 (behind _ t2 t1)))))) ∙ put_all-is c.args.out.now.tokens (last_members p)) last

pub returns-clause-back : goal.returns-clause-back
returns-clause-back c =
    let p = change_parts 0 c.args.parts.now in
    let r1 : IsReadBack (list_data (exception_data pair_data) p.items.come) = search rules in
    let r2 : IsReadBack (list_data pool_data p.pools.come) = search rules in
    let r3 : IsReadBack (list_data (exception_data number_data) p.explicit.come) = search rules in
    let r4 : IsReadBack (list_data group_data p.items.gone) = search rules in
    let r5 : IsReadBack (list_data number_data p.pools.gone) = search rules in
    let r6 : IsReadBack (list_data group_data p.explicit.gone) = search rules in
    let r7 : IsReadBack (list_data number_data p.osds.up) = search rules in
    let last : OnOk c.list_member-8.result (IsReadBack (list_data reweight_data p.weights)) = search rules in
    on_ok_weaker c.list_member-8.result (λ r. (r1, (r2, (r3, (r4, (r5, (r6, (r7, (r, tt))))))))) last

pub returns-clause-named : goal.returns-clause-named
returns-clause-named c =
    let p = c.args.parts.now in
    on_ok_weaker c.list_member-8.result (λ e. record {
      explicit = record {
        gone = All-map IsNamed pg_part p.explicit.gone (All-same (λ g. IsNamed (pg_part g)) p.explicit.gone c.deref-6.result.now (sym c.deref-6.ensures) c.in_ok-list_member-6.ensures.named);
        come = All-map (λ e. IsNamed e.pg) (exception_part pos) p.explicit.come (All-same (λ e. IsNamed (pg_part e.pg)) p.explicit.come c.deref-3.result.now (sym c.deref-3.ensures) c.in_ok-list_member-3.ensures.named);
      };
      items = record {
        gone = All-map IsNamed pg_part p.items.gone (All-same (λ g. IsNamed (pg_part g)) p.items.gone c.deref-4.result.now (sym c.deref-4.ensures) c.in_ok-list_member-4.ensures.named);
        come = All-map (λ e. IsNamed e.pg) (exception_part pair_part) p.items.come (All-same (λ e. IsNamed (pg_part e.pg)) p.items.come c.deref.result.now (sym c.deref.ensures) c.in_ok-list_member.ensures.named);
      };
    }) c.list_member-8.ensures.tokens
