use Rattle.std.proofs.Common.{arith}
use Rattle.pgtable.proofs.PoolPatches.{patches_long, skipped, below_more}
use Rattle.pgtable.proofs.group_patches.GroupPatches.skip_to.Goals as goal

pub invariant_of-self : goal.invariant_of-self
invariant_of-self c = record { below = below_more c.args.self.now.some.items c.args.self.now.count c.args.self.now.below c.args.count (omega (arith, patches_long c.args.self.now.some.items c.args.self.now.count, c.requires)) }

pub returns : goal.returns
returns c = skipped c.args.self.now.some.items c.args.self.now.count c.args.self.now.below c.args.count (omega (arith, patches_long c.args.self.now.some.items c.args.self.now.count, c.requires))
