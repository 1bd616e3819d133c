use Rattle.std.proofs.Common.{refl, arith}
use Rattle.pgtable.proofs.PoolPatches.{patches_long, pushed_some, below_pushed}
use Rattle.pgtable.proofs.group_patches.GroupPatches.put.Goals as goal

pub overflow_add-self : goal.overflow_add-self
overflow_add-self c = omega (arith, patches_long c.args.self.now.some.items c.args.self.now.count, c.requires)

pub invariant_of-self : goal.invariant_of-self
invariant_of-self c = record { below = rw c.in_err-push.ensures.items c.args.self.now.below }

pub invariant_of-self-2 : goal.invariant_of-self-2
invariant_of-self-2 c = record { below = rw c.in_ok-push.ensures.items (below_pushed c.args.self.now.some.items c.args.self.now.count c.args.self.now.below (record { at = c.args.self.now.count; patch = c.args.patch }) refl) }

pub returns : goal.returns
returns c = rw c.in_ok-push.ensures.items (pushed_some c.args.self.now.some.items c.args.self.now.count c.args.self.now.below (record { at = c.args.self.now.count; patch = c.args.patch }) refl)
