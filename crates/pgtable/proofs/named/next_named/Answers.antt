use Rattle.std.proofs.Common.{◌≡◌, ◌∙◌, ◌*◌, ◌^◌, ◌≤◌, sym, ap, Some, length, slice_get, arith}
use Rattle.std.proofs.lemmas.Bool.{ltb-true}
use Rattle.std.proofs.lemmas.Bool.Decides.{nat_tests}
use Rattle.std.proofs.lemmas.Option.{slice_get-get_or}
use Rattle.pgtable.proofs.Naming.{none_left, none_before}
use Rattle.pgtable.proofs.named.next_named.Goals as goal

pub returns-in-Some-get-clause-others : goal.returns-in-Some-get-clause-others
returns-in-Some-get-clause-others c = λ k q from less is few.
    let t = c.in-Some.table.now in
    let here : slice_get c.args.tables.now c.args.at ≡ Some t = slice_get-get_or c.args.tables.now c.args.at t (ltb-true _ _ (sym c.in-Some.ensures.lookup.0)) ∙ ap (λ x. Some x) (sym c.in-Some.ensures.lookup.1) in
    let first : c.key.result ≡ t.pool.id * 2 ^ 32 = omega (arith, c.key.ensures, c.id.ensures) in
    let g = c.in-Some-get.group.now in
    let found : slice_get c.args.groups.now c.count_below.result ≡ Some g = slice_get-get_or c.args.groups.now c.count_below.result g (ltb-true _ _ (sym c.in-Some-get.ensures.lookup.0)) ∙ ap (λ x. Some x) (sym c.in-Some-get.ensures.lookup.1) in
    none_before c.args.tables.now c.args.groups.now c.requires.tables c.args.at c.count_below.result c.key.result t here first c.count_below.ensures.below c.requires.groups g found c.count_before.result c.count_before.ensures.below k q from (omega (arith, less, from, c.max.ensures)) is few

pub returns-in-None-clause-others : goal.returns-in-None-clause-others
returns-in-None-clause-others c = λ k q from less is few.
    let t = c.in-Some.table.now in
    let here : slice_get c.args.tables.now c.args.at ≡ Some t = slice_get-get_or c.args.tables.now c.args.at t (ltb-true _ _ (sym c.in-Some.ensures.lookup.0)) ∙ ap (λ x. Some x) (sym c.in-Some.ensures.lookup.1) in
    let first : c.key.result ≡ t.pool.id * 2 ^ 32 = omega (arith, c.key.ensures, c.id.ensures) in
    let all : length c.args.groups.now ≤ c.count_below.result = grind (arith, nat_tests, c.in-None.ensures.lookup) in
    none_left c.args.tables.now c.args.groups.now c.requires.tables c.args.at c.count_below.result c.key.result t here first c.count_below.ensures.below all k q from is
