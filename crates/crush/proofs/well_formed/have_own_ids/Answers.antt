use Rattle.std.proofs.Common.{rules, tests}
use Rattle.std.specs.Prelude.{int_lt}
use Rattle.std.proofs.lemmas.Fn.{always_returns_same}
use Rattle.crush.proofs.OwnIds.{own_ids-tested}
use Rattle.crush.proofs.well_formed.have_own_ids.Goals as goal

pub returns : goal.returns
returns c =
    let answer = c.is_sorted_by.ensures.cases (λ a b. int_lt b.id a.id) (always_returns_same _ _ _ (λ a r q called. search (rules, tests))) in
    let found = own_ids-tested c.args.buckets.now c.requires _ answer in
    record { value = found.0; falls = found.1 }
