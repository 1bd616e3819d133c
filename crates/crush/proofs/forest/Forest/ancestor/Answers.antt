use Rattle.std.proofs.Common.{◌≡◌, w32, find, Some, None, ℤ, sym, rules}
use Rattle.std.proofs.lemmas.Int.{to_z-of_z}
use Rattle.crush.specs.Paths.{has_item}
use Rattle.crush.proofs.Ancestors.{ancestor_is}
use Rattle.crush.proofs.Climbs.{climb-level, climb-there, climb-nowhere, climb-smaller}
use Rattle.crush.proofs.forest.Forest.ancestor.Goals as goal
use mir.Val.{SFits}

pub returns-then-bucket-level : goal.returns-then-bucket-level
returns-then-bucket-level c =
    let fits : SFits w32 c.in-Some.bucket.now.id = search rules in
    let item = to_z-of_z w32 c.args.item c.ranges.item in
    let found : find (has_item c.loop-bucket.below) c.args.self.now ≡ Some c.in-Some.bucket.now = sym (rw c.loop-bucket.below-is at c.in-Some.ensures.value) in
    let so_far = λ (a : ℤ). rw (item, c.loop-bucket.below-is) at (c.loop-bucket.invariant a) in
    rw (to_z-of_z w32 c.in-Some.bucket.now.id fits) (ancestor_is c.args.self.now c.args.item c.args.level (Some c.in-Some.bucket.now.id)
    (climb-there c.args.self.now c.parent.ensures.forest c.args.item c.loop-bucket.below c.args.level c.in-Some.bucket.now found c.if-bucket-level.true so_far))

pub loop-bucket-smaller : goal.loop-bucket-smaller
loop-bucket-smaller c =
    let fits : SFits w32 c.in-Some.bucket.now.id = search rules in
    let found : find (has_item c.loop-bucket.below) c.args.self.now ≡ Some c.in-Some.bucket.now = sym (rw c.loop-bucket.below-is at c.in-Some.ensures.value) in
    rw (to_z-of_z w32 c.in-Some.bucket.now.id fits, c.loop-bucket.below-is) (climb-smaller c.args.self.now c.parent.ensures.forest c.loop-bucket.below c.in-Some.bucket.now found)

pub loop-bucket-preserved : goal.loop-bucket-preserved
loop-bucket-preserved c =
    let fits : SFits w32 c.in-Some.bucket.now.id = search rules in
    let item = to_z-of_z w32 c.args.item c.ranges.item in
    let found : find (has_item c.loop-bucket.below) c.args.self.now ≡ Some c.in-Some.bucket.now = sym (rw c.loop-bucket.below-is at c.in-Some.ensures.value) in
    let so_far = λ (a : ℤ). rw (item, c.loop-bucket.below-is) at (c.loop-bucket.invariant a) in
    λ a. rw (item, to_z-of_z w32 c.in-Some.bucket.now.id fits) (climb-level c.args.self.now c.parent.ensures.forest c.args.item c.loop-bucket.below c.args.level c.in-Some.bucket.now found c.if-bucket-level.false so_far a)

pub returns : goal.returns
returns c =
    let item = to_z-of_z w32 c.args.item c.ranges.item in
    let absent : find (has_item c.loop-bucket.below) c.args.self.now ≡ None = sym (rw c.loop-bucket.below-is at c.in_default.ensures.value) in
    let so_far = λ (a : ℤ). rw (item, c.loop-bucket.below-is) at (c.loop-bucket.invariant a) in
    ancestor_is c.args.self.now c.args.item c.args.level None
    (climb-nowhere c.args.self.now c.parent.ensures.forest c.args.item c.loop-bucket.below c.args.level absent so_far)
