use Rattle.std.proofs.Common.{[], ◌∷◌, ◌++◌, ap, ◌∙◌}
use Rattle.std.proofs.lemmas.Result.{on_ok_weaker}
use Rattle.json.specs.Token.{end_object}
use Rattle.mapjson.specs.PartsOfChange.{change_parts}
use Rattle.mapjson.specs.WrittenChanges.{crush_member, first_members, last_members}
use Rattle.mapjson.specs.Pieces.{member_tokens}
use Rattle.mapjson.proofs.ChangeBack.{change_read, change_tokens}
use Rattle.mapjson.proofs.written.change.write_parts.Goals as goal

pub returns-clause-tokens : goal.returns-clause-tokens
returns-clause-tokens c =
    let parts = change_parts c.args.base c.args.parts.now in
    let first = c.in_ok-first_members.ensures.tokens ∙ ap (λ ts. ts ++ member_tokens (first_members parts)) c.in_ok-begin_object.ensures.ok in
    let crush = c.in_ok-crush_member.ensures.tokens ∙ ap (λ ts. ts ++ member_tokens (crush_member parts.crush)) first in
    let last = c.in_ok-last_members.ensures.tokens ∙ ap (λ ts. ts ++ member_tokens (last_members parts)) crush in
    on_ok_weaker c.end_object.result (λ e. e ∙ ap (λ ts. ts ++ end_object ∷ []) last ∙ change_tokens parts c.args.out.now.tokens) c.end_object.ensures.ok

pub returns-clause-back : goal.returns-clause-back
returns-clause-back c =
    on_ok_weaker c.end_object.result (λ e. change_read (change_parts c.args.base c.args.parts.now) c.in_ok-first_members.ensures.back c.in_ok-crush_member.ensures.back c.in_ok-last_members.ensures.back) c.end_object.ensures.ok

pub returns-clause-named : goal.returns-clause-named
returns-clause-named c =
    let n = c.in_ok-last_members.ensures.named in
    on_ok_weaker c.end_object.result (λ e. record { explicit = record { gone = n.explicit.gone; come = n.explicit.come }; items = record { gone = n.items.gone; come = n.items.come } }) c.end_object.ensures.ok
