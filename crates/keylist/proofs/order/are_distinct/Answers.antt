use Rattle.std.proofs.Common.{rules, tests}
use Rattle.std.specs.Prelude.{nat_lt}
use Rattle.std.proofs.lemmas.Fn.{always_returns_same}
use Rattle.keylist.proofs.Distinct.{rises-tested}
use Rattle.keylist.proofs.order.are_distinct.Goals as goal

pub returns : goal.returns
returns g c =
    let key = g.K.Keyed.key_of in
    let adjacent = c.is_sorted_by.ensures.cases (λ a b. nat_lt (key a) (key b)) (always_returns_same _ _ _ (λ a r q called. search (rules, tests))) in
    (rises-tested key _ c.requires _ adjacent).0
