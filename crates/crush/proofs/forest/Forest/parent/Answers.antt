use Rattle.std.proofs.Common.{◌≡◌, slice_get, slice_index, sym, ◌∙◌, ap, w32, arith}
use Rattle.std.specs.Option.{option_copied}
use Rattle.std.proofs.lemmas.Int.{to_z-of_z}
use Rattle.std.proofs.lemmas.Bool.Decides.{nat_tests}
use Rattle.std.proofs.lemmas.Option.{gets}
use Rattle.crush.specs.Parents.{AreParents}
use Rattle.crush.proofs.ParentPlaces.{unknown-nowhere, are_parents}
use Rattle.crush.proofs.forest.Forest.parent.Goals as goal

pub returns-then-not-is_known-clause-value : goal.returns-then-not-is_known-clause-value
returns-then-not-is_known-clause-value c =
    let shown = to_z-of_z w32 c.args.item c.ranges.item in
    let unknown = rw (shown, c.deref-buckets.ensures.value) at (sym c.is_known.ensures ∙ c.if-not-is_known.true) in
    rw (← c.self.view_is) (sym (unknown-nowhere _ c.self.invariant c.args.item unknown))

pub returns-clause-value : goal.returns-clause-value
unfolding AreParents
returns-clause-value c =
    let buckets = c.self.inside.buckets.items in
    let shown = to_z-of_z w32 c.args.item c.ranges.item in
    let known = rw (shown, c.deref-buckets.ensures.value) at (sym c.is_known.ensures ∙ c.if-not-is_known.false) in
    let place = rw (shown, c.deref-buckets.ensures.value) at c.slot_of.ensures.value in
    let read : option_copied c.get.result ≡ slice_get buckets (slice_index c.self.inside.parents c.slot_of.result) = grind (arith, nat_tests, gets, c.get.ensures.lookup, c.deref-buckets.ensures.value, c.from.ensures) in
    let linked = are_parents buckets c.self.inside.parents c.self.inside.linked in
    rw (← c.self.view_is) (read ∙ ap (λ s. slice_get buckets (slice_index c.self.inside.parents s)) place ∙ linked c.args.item known)
