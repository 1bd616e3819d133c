use Rattle.std.proofs.Common.{◌<◌, length, arith}
use Rattle.std.proofs.Math.ListN.{length-set}
use Rattle.maptypes.specs.Growth.{with_growths}
use Rattle.osdmap.proofs.Growing.{grew_more, rest_same}
use Rattle.osdmap.proofs.in_place.grow_all.Goals as goal

pub loop-at-preserved : goal.loop-at-preserved
loop-at-preserved c =
    let m = c.loop-at.invariant in
    let old = c.args.pools.now.items in
    let xs = c.loop-at.pools.items in
    let inside : c.loop-at.at < length xs = omega (arith, c.loop-at-test.true, c.len-at-end.ensures, m.long, c.args.pools.now.ok.0) in
    record {
      grew = grew_more (with_growths c.args.growths.now) old xs c.loop-at.at c.index.result.now c.with_growths.result m.grew m.rest m.long inside c.index.ensures c.with_growths.ensures;
      rest = rest_same old xs c.loop-at.at c.with_growths.result c.index.result.now m.rest m.long inside;
      long = rw length-set m.long;
    }
