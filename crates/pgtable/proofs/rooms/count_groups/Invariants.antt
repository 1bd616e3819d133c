use Rattle.std.proofs.Common.{◌≡◌, ◌^◌, ◌-◌, min, take}
use Rattle.maptypes.specs.Pools.{total_groups}
use Rattle.pgtable.proofs.rooms.count_groups.Given as goal

abbrev pub invariant-loop-pool : goal.invariant-loop-pool
invariant-loop-pool l = l.count ≡ min (total_groups (take l.pool-index l.pools)) (2 ^ 64 - 1)
