use Rattle.std.proofs.Common.{◌≡◌, ◌≤◌, ◌*◌, ◌^◌, map, take}
use Rattle.maptypes.specs.Growth.{with_growths}
use Rattle.maptypes.specs.Pools.{total_groups}
use Rattle.osdmap.proofs.check.rules.total_groups.Given as goal

-- so many groups the pools so far have
abbrev pub invariant-loop-pool : goal.invariant-loop-pool
invariant-loop-pool l = (l.total ≡ total_groups (map (with_growths l.growths) (take l.pool-index l.pools))) × (l.total ≤ 2 ^ 32 * l.pool-index)
