use Rattle.std.proofs.Common.{◌≡◌, ◌∷◌, ◌++◌, codes, OnOk, map, pos, subst, ◌∙◌, rules}
use Rattle.std.proofs.lemmas.Result.{on_ok_weaker}
use Rattle.json.specs.Token.{Token}
use Rattle.mapjson.specs.Written.{number_data, list_data}
use Rattle.mapjson.specs.WrittenChanges.{growth_data}
use Rattle.mapjson.specs.PartsOfChange.{growth_part, change_parts}
use Rattle.mapjson.specs.WrittenChanges.{first_members}
use Rattle.mapjson.specs.Pieces.{tokens_of, IsReadBack}
use Rattle.mapjson.proofs.Pieces.{put_all-is, behind}
use Rattle.mapjson.proofs.written.change.first_members.Goals as goal

pub returns-clause-tokens : goal.returns-clause-tokens
returns-clause-tokens c =
    let p = change_parts c.args.base c.args.parts.now in
    let t1 : c.epoch_member.new.out.tokens ≡ c.args.out.now.tokens ++ Token.key (codes "base") ∷ tokens_of (number_data p.base) = search rules in
    let t2 : c.list_member.new.out.tokens ≡ c.epoch_member.new.out.tokens ++ Token.key (codes "down") ∷ tokens_of (list_data number_data p.osds.down) = subst (λ xs. c.list_member.new.out.tokens ≡ c.epoch_member.new.out.tokens ++ Token.key (codes "down") ∷ tokens_of (list_data number_data (map pos xs))) c.deref.ensures c.in_ok-list_member.ensures.tokens in
    let last : OnOk c.list_member-2.result (c.list_member-2.new.out.tokens ≡ c.list_member.new.out.tokens ++ Token.key (codes "grow_pool") ∷ tokens_of (list_data growth_data p.pools.grow)) = on_ok_weaker c.list_member-2.result (λ e. subst (λ xs. c.list_member-2.new.out.tokens ≡ c.list_member.new.out.tokens ++ Token.key (codes "grow_pool") ∷ tokens_of (list_data growth_data (map growth_part xs))) c.deref-2.ensures e) c.list_member-2.ensures.tokens in
    on_ok_weaker c.list_member-2.result (λ e. behind _ e (behind _ t2 t1) ∙ put_all-is c.args.out.now.tokens (first_members p)) last

pub returns-clause-back : goal.returns-clause-back
returns-clause-back c =
    let p = change_parts c.args.base c.args.parts.now in
    let r1 : IsReadBack (number_data p.base) = search rules in
    let r2 : IsReadBack (list_data number_data p.osds.down) = search rules in
    let last : OnOk c.list_member-2.result (IsReadBack (list_data growth_data p.pools.grow)) = search rules in
    on_ok_weaker c.list_member-2.result (λ r. (r1, (r2, (r, tt)))) last
