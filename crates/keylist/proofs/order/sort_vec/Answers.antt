use Rattle.std.proofs.Common.{rules}
use Rattle.std.proofs.lemmas.List.Sorted.{IsNonDecreasingBy-from_sort_by_key, answers_always}
use Rattle.keylist.proofs.order.sort_vec.Goals as goal

pub returns : goal.returns
returns g c =
    let key = g.K.Keyed.key_of in
    record {
      same = c.in_ok-sort_by_key.ensures.permutation;
      ascending = IsNonDecreasingBy-from_sort_by_key key _ c.in_ok-sort_by_key.ensures.sorted (λ a r q k. search rules);
      stable = c.in_ok-sort_by_key.ensures.stable key (answers_always _ _ _ (λ f a r g called. search rules));
    }
