use Rattle.std.proofs.Common.{◌==◌}
use Rattle.osdmap.specs.Maps.{has_rule}
use Rattle.maptypes.specs.Pools.{PoolFacts}
use Rattle.osdmap.proofs.PlacementLemmas.{found_passes}
use Rattle.osdmap.proofs.map.OsdMap.placing.Goals as goal

pub placing_in-requires : goal.placing_in-requires
placing_in-requires c = found_passes (λ (p : PoolFacts). p.id == c.args.pool.now.id) (has_rule c.args.self.now.map.rules) c.args.self.now.map.pools c.args.pool.now c.requires c.holds_together.ensures.ruled
