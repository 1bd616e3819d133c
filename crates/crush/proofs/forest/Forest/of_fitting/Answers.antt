use Rattle.std.proofs.Common.{sym, ◌∙◌, rules}
use Rattle.std.proofs.lemmas.Fn.{always_returns_same}
use Rattle.crush.proofs.Made.{descending-own, forest-passed, fault-forest, fault-none, own-ok}
use Rattle.crush.proofs.BucketsById.{by_id-sorted}
use Rattle.crush.proofs.Sorted.{sorted-falls, own_ids-moved, limits-moved, bucket_at-moved}
use Rattle.crush.proofs.forest.Forest.of_fitting.Goals as goal

-- the sort's key is the id turned round
pub is_well_formed-requires-clause-sorted : goal.is_well_formed-requires-clause-sorted
is_well_formed-requires-clause-sorted c =
    rw c.deref.ensures.value (sorted-falls _ (c.sort_unstable_by_key.ensures.sorted (λ b. record { 0 = b.id }) (always_returns_same _ _ _ (λ a r q called. search rules))))

pub is_well_formed-requires-clause-limits : goal.is_well_formed-requires-clause-limits
is_well_formed-requires-clause-limits c =
    rw c.deref.ensures.value (limits-moved _ _ c.sort_unstable_by_key.ensures.permutation c.args.max_osd ∙ c.requires)

pub returns-then-not-is_well_formed-clause-value : goal.returns-then-not-is_well_formed-clause-value
returns-then-not-is_well_formed-clause-value c =
    let bad = rw c.deref.ensures.value at (sym c.is_well_formed.ensures ∙ c.if-not-is_well_formed.true) in
    fault-forest _ _ c.sort_unstable_by_key.ensures.permutation c.args.max_osd bad

-- the buckets that passed
pub parents_of-parents-requires : goal.parents_of-parents-requires
parents_of-parents-requires c =
    let ok = rw c.deref.ensures.value at (sym c.is_well_formed.ensures ∙ c.if-not-is_well_formed.false) in
    let sorted = sorted-falls _ (c.sort_unstable_by_key.ensures.sorted (λ b. record { 0 = b.id }) (always_returns_same _ _ _ (λ a r q called. search rules))) in
    rw c.deref-2.ensures.value (forest-passed c.sort_unstable_by_key.new.self.items c.args.max_osd sorted (limits-moved _ _ c.sort_unstable_by_key.ensures.permutation c.args.max_osd ∙ c.requires) ok)

pub invariant_of-result : goal.invariant_of-result
invariant_of-result c = (∣ rw c.deref-2.ensures.value at c.parents_of-parents.ensures ∣₁, tt)

pub invariant_of-result-2 : goal.invariant_of-result-2
invariant_of-result-2 c =
    let ok = rw c.deref.ensures.value at (sym c.is_well_formed.ensures ∙ c.if-not-is_well_formed.false) in
    let sorted = sorted-falls _ (c.sort_unstable_by_key.ensures.sorted (λ b. record { 0 = b.id }) (always_returns_same _ _ _ (λ a r q called. search rules))) in
    forest-passed c.sort_unstable_by_key.new.self.items c.args.max_osd sorted (limits-moved _ _ c.sort_unstable_by_key.ensures.permutation c.args.max_osd ∙ c.requires) ok

pub returns-clause-descending : goal.returns-clause-descending
returns-clause-descending c =
    let ok = rw c.deref.ensures.value at (sym c.is_well_formed.ensures ∙ c.if-not-is_well_formed.false) in
    let sorted = sorted-falls _ (c.sort_unstable_by_key.ensures.sorted (λ b. record { 0 = b.id }) (always_returns_same _ _ _ (λ a r q called. search rules))) in
    descending-own c.sort_unstable_by_key.new.self.items sorted (own-ok c.sort_unstable_by_key.new.self.items c.args.max_osd ok)

pub returns-clause-buckets : goal.returns-clause-buckets
returns-clause-buckets c =
    let ok = rw c.deref.ensures.value at (sym c.is_well_formed.ensures ∙ c.if-not-is_well_formed.false) in
    let moved = c.sort_unstable_by_key.ensures.permutation in
    bucket_at-moved _ _ moved (sym (own_ids-moved _ _ moved) ∙ own-ok c.sort_unstable_by_key.new.self.items c.args.max_osd ok)

pub returns-clause-value : goal.returns-clause-value
returns-clause-value c =
    let ok = rw c.deref.ensures.value at (sym c.is_well_formed.ensures ∙ c.if-not-is_well_formed.false) in
    let moved = c.sort_unstable_by_key.ensures.permutation in
    let own = sym (own_ids-moved _ _ moved) ∙ own-ok c.sort_unstable_by_key.new.self.items c.args.max_osd ok in
    (fault-none _ _ moved c.args.max_osd ok, by_id-sorted c.args.buckets.items c.sort_unstable_by_key.new.self.items moved own (returns-clause-descending c))
