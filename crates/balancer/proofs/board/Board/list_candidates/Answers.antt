use Rattle.std.proofs.Common.{◌<◌, ◌≤◌, length}
use Rattle.balancer.proofs.SearchCovers.{listed_more, listed_all}
use Rattle.balancer.proofs.board.Board.list_candidates.Goals as goal

pub loop-osd-preserved : goal.loop-osd-preserved
loop-osd-preserved c =
    let b = c.args.self.now in
    let inside : c.loop-osd.osd-index < length b.frame.osds.items = rw c.deref-osd-items.ensures.value at c.loop-osd-test.true in
    let put = rw c.deref-osd-items.ensures.value at c.in_ok-push.ensures.items in
    listed_more b.frame.osds.items c.loop-osd.order.items c.push.new.self.items c.loop-osd.osd-index _ inside c.loop-osd.invariant put

pub returns : goal.returns
returns c =
    let b = c.args.self.now in
    let past : length b.frame.osds.items ≤ c.loop-osd.osd-index = rw c.deref-osd-items.ensures.value at c.loop-osd-test.false in
    listed_all b.frame.map.now.map b.frame.pool b.frame.osds.items c.loop-osd.order.items c.loop-osd.osd-index b.frame.osds_are c.loop-osd.invariant past
