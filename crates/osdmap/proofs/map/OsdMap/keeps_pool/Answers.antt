use Rattle.std.proofs.Common.{rules}
use Rattle.maptypes.specs.Pools.{PoolFacts}
use Rattle.osdmap.specs.Changes.{pools_kept}
use Rattle.keylist.proofs.KeyedMaps.{has-entry}
use Rattle.osdmap.proofs.map.OsdMap.keeps_pool.Goals as goal

pub returns : goal.returns
returns c = rw (has-entry (λ (q : PoolFacts). q.id) (pools_kept c.args.self.now.map c.args.change.now) c.args.id) (search rules)
