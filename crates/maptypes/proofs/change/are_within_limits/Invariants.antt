use Rattle.std.proofs.Common.{take}
use Rattle.std.specs.List.{All}
use Rattle.maptypes.specs.Pools.{IsWithinLimits}
use Rattle.maptypes.proofs.change.are_within_limits.Given as goal

-- the pools so far
abbrev pub invariant-loop-pool : goal.invariant-loop-pool
invariant-loop-pool l = All IsWithinLimits (take l.pool-index l.pools)
