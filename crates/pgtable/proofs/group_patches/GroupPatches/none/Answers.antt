use Rattle.pgtable.proofs.PoolPatches.{patches_none}
use Rattle.pgtable.proofs.group_patches.GroupPatches.none.Goals as goal

pub returns : goal.returns
returns c = patches_none c.new.result.items c.args.count c.new.ensures.items
