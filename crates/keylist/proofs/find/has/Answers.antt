use Rattle.std.proofs.Common.{rules, ◌∙◌}
use Rattle.std.proofs.lemmas.List.Sorted.{answers_always}
use Rattle.keylist.proofs.KeyedFinds.{has-sought}
use Rattle.keylist.proofs.find.has.Goals as goal

pub returns : goal.returns
returns g c =
    let key = g.K.Keyed.key_of in
    let place = c.binary_search_by_key.ensures.position key (answers_always _ _ _ (λ f a r q called. search rules)) in
    c.is_ok.ensures.value ∙ has-sought key c.args.entries.now c.args.key _ c.binary_search_by_key.ensures.bound place c.requires
