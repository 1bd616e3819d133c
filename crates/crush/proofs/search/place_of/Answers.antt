use Rattle.std.proofs.Common.{◌∙◌, sym, ap, w32, rules}
use Rattle.std.specs.Ordering.{int_cmp, int_eq}
use Rattle.std.proofs.lemmas.Int.{to_z-of_z}
use Rattle.std.proofs.lemmas.Fn.{always_returns_same}
use Rattle.crush.proofs.IdSearches.{searched, met}
use Rattle.crush.proofs.search.place_of.Goals as goal

pub returns-in-Some : goal.returns-in-Some
returns-in-Some c =
    let same = c.has_id.ensures ∙ ap (int_eq c.in-Some.bucket.now.id) (to_z-of_z w32 c.args.id c.ranges.id) in
    met c.args.buckets.now c.requires c.args.id c.cast_unsigned-guess.result c.in-Some.bucket.now c.in-Some.ensures.lookup.0 c.in-Some.ensures.lookup.1 (sym c.if-has_id.true ∙ same)

pub returns-in_default : goal.returns-in_default
returns-in_default c =
    let facts = c.binary_search_by.ensures in
    let by_id = facts.position (λ b. int_cmp c.args.id b.id) (always_returns_same _ _ _ (λ a r q called. search rules)) in
    c.ok.ensures.value ∙ searched c.args.buckets.now c.requires c.args.id _ facts.bound by_id
