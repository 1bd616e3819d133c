use Rattle.std.proofs.Common.{rules}
use Rattle.maptypes.specs.Pools.{PoolFacts}
use Rattle.osdmap.specs.Changes.{pools_there}
use Rattle.keylist.proofs.KeyedMaps.{has-entry}
use Rattle.osdmap.proofs.map.OsdMap.has_pool_there.Goals as goal

pub returns : goal.returns
returns c = rw (has-entry (λ (q : PoolFacts). q.id) (pools_there c.args.self.now.map c.args.change.now) c.args.id) (search rules)
