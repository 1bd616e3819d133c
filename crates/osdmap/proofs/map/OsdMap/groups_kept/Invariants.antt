use Rattle.std.proofs.Common.{◌≡◌, ◌≤◌, ◌*◌, ◌^◌, not, map, take}
use Rattle.std.specs.List.{filter}
use Rattle.keylist.specs.Keys.{has_key}
use Rattle.maptypes.specs.Growth.{with_growths}
use Rattle.maptypes.specs.Pools.{PoolFacts, total_groups}
use Rattle.osdmap.proofs.map.OsdMap.groups_kept.Given as goal

-- so many groups have those that stay of the pools so far
abbrev pub invariant-loop-pool : goal.invariant-loop-pool
invariant-loop-pool l =
    (l.total ≡ total_groups (map (with_growths l.change.pools.grow) (filter (λ (q : PoolFacts). not (has_key (λ k. k) l.change.pools.gone q.id)) (take l.pool-index l.pools))))
    × (l.total ≤ 2 ^ 32 * l.pool-index)
