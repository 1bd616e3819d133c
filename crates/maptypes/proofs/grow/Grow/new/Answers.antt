use Rattle.std.proofs.Common.{rules}
use Rattle.mapparts.proofs.Wider.{growth_wider}
use Rattle.maptypes.proofs.grow.Grow.new.Goals as goal

pub of_fitting-requires : goal.of_fitting-requires
of_fitting-requires c = growth_wider _ (search rules)
