-- Items of the same weight.
use Rattle.std.proofs.Common.{◌≡◌, ◌<◌, List, length, get_or, eqb, eq-eqb, sym, ◌∙◌}
use Rattle.std.specs.List.{list_all}
use Rattle.std.proofs.lemmas.Bool.{eqb-true}
use Rattle.buckets.specs.declared.bucket.Item.{Item}
use Rattle.buckets.specs.Buckets.{is_even}
use Rattle.keylist.proofs.Each.{list_all-at, list_all-from, same_tests}

-- no two items differ just where none differs from the first
pub is_even-first : (items : List Item) (d : Item) → 0 < length items → list_all (λ i. eqb i.weight (get_or items 0 d).weight) items ≡ is_even items
is_even-first items d some =
    let first = get_or items 0 d in
    same_tests _ _
    (λ like_first.
    list_all-from _ items d (λ i i_in.
    list_all-from _ items d (λ j j_in.
    let at_i = eqb-true _ _ (list_all-at (λ k. eqb k.weight first.weight) items i d i_in like_first) in
    let at_j = eqb-true _ _ (list_all-at (λ k. eqb k.weight first.weight) items j d j_in like_first) in
    eq-eqb _ _ (at_i ∙ sym at_j))))
    (λ even.
    list_all-from _ items d (λ i i_in.
    list_all-at (λ j. eqb (get_or items i d).weight j.weight) items 0 d some (list_all-at (λ i. list_all (λ j. eqb i.weight j.weight) items) items i d i_in even)))
