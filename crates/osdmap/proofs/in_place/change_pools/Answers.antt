use Rattle.keylist.proofs.KeyedOrder.{rising-filter}
use Rattle.maptypes.specs.Pools.{PoolFacts}
use Rattle.osdmap.proofs.in_place.change_pools.Goals as goal

pub put_all-requires-clause-old : goal.put_all-requires-clause-old
put_all-requires-clause-old c = rw c.take_away.ensures.items (rising-filter (λ (p : PoolFacts). p.id) _ _ c.requires.rising)
