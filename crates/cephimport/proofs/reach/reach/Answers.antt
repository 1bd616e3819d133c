use Rattle.cephimport.specs.Reach.{reach}
use Rattle.cephimport.proofs.Rounds.{goes_on, is_done, stays}
use Rattle.cephimport.proofs.reach.reach.Goals as goal

pub returns-then-are_same : goal.returns-then-are_same
returns-then-are_same c = stays c.args.rounds c.loop.counter c.args.all.now c.loop.ids.items c.in_ok-after.after.items (reach c.args.rounds c.args.all.now c.args.from.items) (rw c.deref.ensures.value at c.in_ok-after.ensures) (rw (c.deref-in-loop.ensures.value, c.deref-in-loop-2.ensures.value) at (c.are_same.ensures c.if-are_same.true)) c.loop.invariant

pub loop-preserved : goal.loop-preserved
loop-preserved c = goes_on c.args.rounds c.loop.counter c.args.all.now c.loop.ids.items c.in_ok-after.after.items (reach c.args.rounds c.args.all.now c.args.from.items) c.loop-test.true (rw c.deref.ensures.value at c.in_ok-after.ensures) c.loop.invariant

pub returns : goal.returns
returns c = is_done c.args.rounds c.loop.counter c.args.all.now c.loop.ids.items (reach c.args.rounds c.args.all.now c.args.from.items) c.loop-test.false c.loop.invariant
