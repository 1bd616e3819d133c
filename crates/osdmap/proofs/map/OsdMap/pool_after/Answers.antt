use Rattle.std.proofs.Common.{rules}
use Rattle.osdmap.specs.Changes.{pools_there, pools_after}
use Rattle.osdmap.proofs.Grown.{entry-with_growths}
use Rattle.osdmap.proofs.map.OsdMap.pool_after.Goals as goal

pub returns-in-Some : goal.returns-in-Some
unfolding pools_after
returns-in-Some c =
    let there = rw c.in-Some.is at c.pool_there.ensures in
    rw (entry-with_growths c.args.change.now.pools.grow (pools_there c.args.self.now.map c.args.change.now) c.args.id, ← there) (search rules)

pub returns-in-None : goal.returns-in-None
unfolding pools_after
returns-in-None c =
    let there = rw c.in-None.is at c.pool_there.ensures in
    rw (entry-with_growths c.args.change.now.pools.grow (pools_there c.args.self.now.map c.args.change.now) c.args.id, ← there) (search rules)
