use Rattle.std.proofs.Common.{◌≡◌, ◌≢◌, w32, find, Some, None, sym, ap, ◌∙◌, rules}
use Rattle.std.proofs.lemmas.Int.{to_z-of_z}
use Rattle.std.proofs.lemmas.Bool.{false_from_ne_true}
use Rattle.crush.specs.Paths.{has_item, is_above}
use Rattle.crush.proofs.Above.{above-known}
use Rattle.crush.proofs.Climbs.{climb-above, climb-found, climb-none, climb-smaller, above-tested}
use Rattle.crush.proofs.forest.Forest.is_above.Goals as goal
use mir.Val.{SFits, of_z, to_z}

pub returns-then-parent-bucket-clause-value : goal.returns-then-parent-bucket-clause-value
returns-then-parent-bucket-clause-value c =
    let fits : SFits w32 c.in-Some.parent.now.id = search rules in
    let bucket = to_z-of_z w32 c.args.bucket c.ranges.bucket in
    let item = to_z-of_z w32 c.args.item c.ranges.item in
    let found : find (has_item c.loop-parent.below) c.args.self.now ≡ Some c.in-Some.parent.now = sym (rw c.loop-parent.below-is at c.in-Some.ensures.value) in
    let so_far = rw (bucket, item, c.loop-parent.below-is) at c.loop-parent.invariant in
    let same : c.in-Some.parent.now.id ≡ c.args.bucket = sym (to_z-of_z w32 c.in-Some.parent.now.id fits) ∙ (ap (to_z w32) c.if-parent-bucket.true ∙ bucket) in
    sym ((above-tested c.args.self.now c.parent.ensures.forest c.args.bucket c.args.item).1 (climb-found c.args.self.now c.parent.ensures.forest c.args.bucket c.args.item c.loop-parent.below c.in-Some.parent.now found same so_far))

pub returns-then-parent-bucket-clause-known : goal.returns-then-parent-bucket-clause-known
returns-then-parent-bucket-clause-known c = λ _. above-known c.args.self.now c.args.bucket c.args.item (sym (returns-then-parent-bucket-clause-value c))

pub loop-parent-smaller : goal.loop-parent-smaller
loop-parent-smaller c =
    let fits : SFits w32 c.in-Some.parent.now.id = search rules in
    let found : find (has_item c.loop-parent.below) c.args.self.now ≡ Some c.in-Some.parent.now = sym (rw c.loop-parent.below-is at c.in-Some.ensures.value) in
    rw (to_z-of_z w32 c.in-Some.parent.now.id fits, c.loop-parent.below-is) (climb-smaller c.args.self.now c.parent.ensures.forest c.loop-parent.below c.in-Some.parent.now found)

pub loop-parent-preserved : goal.loop-parent-preserved
loop-parent-preserved c =
    let fits : SFits w32 c.in-Some.parent.now.id = search rules in
    let bucket = to_z-of_z w32 c.args.bucket c.ranges.bucket in
    let item = to_z-of_z w32 c.args.item c.ranges.item in
    let found : find (has_item c.loop-parent.below) c.args.self.now ≡ Some c.in-Some.parent.now = sym (rw c.loop-parent.below-is at c.in-Some.ensures.value) in
    let so_far = rw (bucket, item, c.loop-parent.below-is) at c.loop-parent.invariant in
    let differs : c.in-Some.parent.now.id ≢ c.args.bucket = λ e. c.if-parent-bucket.false (ap (of_z w32) e) in
    rw (bucket, item, to_z-of_z w32 c.in-Some.parent.now.id fits) (climb-above c.args.self.now c.parent.ensures.forest c.args.bucket c.args.item c.loop-parent.below c.in-Some.parent.now found differs so_far)

pub returns-clause-value : goal.returns-clause-value
returns-clause-value c =
    let bucket = to_z-of_z w32 c.args.bucket c.ranges.bucket in
    let item = to_z-of_z w32 c.args.item c.ranges.item in
    let absent : find (has_item c.loop-parent.below) c.args.self.now ≡ None = sym (rw c.loop-parent.below-is at c.in_default.ensures.value) in
    let so_far = rw (bucket, item, c.loop-parent.below-is) at c.loop-parent.invariant in
    sym (false_from_ne_true (is_above c.args.self.now c.args.bucket c.args.item) (λ yes. climb-none c.args.self.now c.parent.ensures.forest c.args.bucket c.args.item c.loop-parent.below absent so_far ((above-tested c.args.self.now c.parent.ensures.forest c.args.bucket c.args.item).0 yes)))
