use Rattle.std.proofs.Common.{◌==◌, subst, rules}
use Rattle.osdmap.specs.Stored.{StoredMap}
use Rattle.osdmap.specs.Maps.{HoldsTogether, has_rule}
use Rattle.maptypes.specs.Pools.{PoolFacts}
use Rattle.osdmap.proofs.PlacementLemmas.{found_passes}
use Rattle.osdmap.proofs.map.OsdMap.pool_of.Goals as goal

pub returns-then-pg-pg_num : goal.returns-then-pg-pg_num
returns-then-pg-pg_num c =
    let holds = subst (λ (k : StoredMap). HoldsTogether k.map) c.self.view_is c.self.invariant in
    (search rules, search rules, found_passes (λ (p : PoolFacts). p.id == c.args.pg.pool) (has_rule c.args.self.now.map.rules) c.args.self.now.map.pools c.in_ok-pool.pool (search rules) holds.ruled)
