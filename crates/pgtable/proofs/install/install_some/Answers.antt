use Rattle.std.proofs.Common.{◌+◌, refl, sym, length, arith}
use Rattle.std.proofs.lemmas.List.{take_all}
use Rattle.std.proofs.lemmas.Option.{slice_get_read}
use Rattle.pgtable.proofs.PoolPatches.{InstalledLast, last_begin, next_inside, next_fits, last_more, last_end, popped}
use Rattle.pgtable.proofs.install.install_some.Goals as goal

pub loop-one-init : goal.loop-one-init
loop-one-init c = (sym (take_all (length c.args.some.items) c.args.some.items (omega arith)), last_begin c.args.pools.now c.args.some.items)

pub bounds-pools-at : goal.bounds-pools-at
bounds-pools-at c =
    let some = c.args.some.items in
    let (left, here, long) = popped some c.loop-one.some.items c.pop.new.self.items c.in-Some.one c.loop-one.invariant.0 c.in-Some.ensures.items in
    next_inside c.args.pools.now some c.requires.below c.requires.fit (length c.pop.new.self.items) c.in-Some.one here c.loop-one.pools (rw long at c.loop-one.invariant.1)

pub install_groups-requires : goal.install_groups-requires
install_groups-requires c =
    let some = c.args.some.items in
    let (left, here, long) = popped some c.loop-one.some.items c.pop.new.self.items c.in-Some.one c.loop-one.invariant.0 c.in-Some.ensures.items in
    let sofar : InstalledLast c.args.pools.now some (length c.pop.new.self.items + 1) c.loop-one.pools = rw long at c.loop-one.invariant.1 in
    let inside = next_inside c.args.pools.now some c.requires.below c.requires.fit (length c.pop.new.self.items) c.in-Some.one here c.loop-one.pools sofar in
    let there = slice_get_read c.loop-one.pools _ c.in-Some.one.at c.index-pools-at.result refl inside c.index-pools-at.is in
    rw (← c.index-pools-at.is) (next_fits c.args.pools.now some c.requires.below c.requires.fit (length c.pop.new.self.items) c.in-Some.one here c.loop-one.pools sofar c.index-pools-at.result there)

pub loop-one-preserved : goal.loop-one-preserved
loop-one-preserved c =
    let some = c.args.some.items in
    let (left, here, long) = popped some c.loop-one.some.items c.pop.new.self.items c.in-Some.one c.loop-one.invariant.0 c.in-Some.ensures.items in
    let sofar : InstalledLast c.args.pools.now some (length c.pop.new.self.items + 1) c.loop-one.pools = rw long at c.loop-one.invariant.1 in
    let inside = next_inside c.args.pools.now some c.requires.below c.requires.fit (length c.pop.new.self.items) c.in-Some.one here c.loop-one.pools sofar in
    let there = slice_get_read c.loop-one.pools _ c.in-Some.one.at c.index-pools-at.result refl inside c.index-pools-at.is in
    let made = rw (← c.index-pools-at.is) at c.install_groups.ensures in
    let next = last_more c.args.pools.now some c.requires.below c.requires.fit (length c.pop.new.self.items) c.in-Some.one here c.loop-one.pools sofar c.index-pools-at.result there in
    (left, rw made next)

pub returns : goal.returns
returns c =
    last_end c.args.pools.now c.args.some.items c.requires.below c.requires.fit c.loop-one.pools (length c.loop-one.some.items) (omega (arith, c.in_default.ensures.cases, c.loop-one.some.ok)) c.loop-one.invariant.1
