use Rattle.std.proofs.Common.{rules}
use Rattle.mapparts.proofs.Wider.{pool_wider}
use Rattle.maptypes.proofs.pool.Pool.new.Goals as goal

pub of_fitting-requires : goal.of_fitting-requires
of_fitting-requires c = pool_wider c.args.part (search rules)
