use Rattle.std.proofs.Common.{rules}
use Rattle.maptypes.specs.Pools.{PoolFacts}
use Rattle.keylist.proofs.KeyedMaps.{has-entry}
use Rattle.osdmap.proofs.map.OsdMap.has_pool.Goals as goal

pub returns : goal.returns
returns c = rw (has-entry (λ (q : PoolFacts). q.id) c.args.self.now.map.pools c.args.id) (search rules)
