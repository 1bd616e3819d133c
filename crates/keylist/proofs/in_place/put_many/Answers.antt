use Rattle.std.proofs.Common.{arith, ℕ, take}
use Rattle.std.proofs.lemmas.List.{length-take}
use Rattle.keylist.proofs.KeyedMaps.{length-puts_least, length-puts_most}
use Rattle.keylist.proofs.Merging.{merging_next}
use Rattle.keylist.proofs.in_place.put_many.Goals as goal

pub lengthen-requires-clause-longer : goal.lengthen-requires-clause-longer
lengthen-requires-clause-longer g c =
    let count = rw c.deref.ensures.value at c.put_count-at.ensures in
    let long = rw c.deref.ensures.value at c.deref.ensures.len in
    omega (arith, count, long, length-puts_least g.K.Keyed.key_of c.args.list.now.items c.args.new.now)

pub lengthen-requires-clause-room : goal.lengthen-requires-clause-room
lengthen-requires-clause-room g c =
    let count = rw c.deref.ensures.value at c.put_count-at.ensures in
    let long = rw c.deref.ensures.value at c.deref.ensures.len in
    omega (arith, count, long, length-puts_most g.K.Keyed.key_of c.args.list.now.items c.args.new.now c.requires.old, c.requires.room)

pub loop-olds-preserved : goal.loop-olds-preserved
loop-olds-preserved g c =
    let m = c.loop-olds.invariant.merging in
    record {
      merging = merging_next g.K.Keyed.key_of _ _ _ _ _ m _ _ _ (rw c.deref-in-loop-olds.ensures.value at c.in-Some-last_of_both.ensures);
      room = c.loop-olds.invariant.room;
    }

pub replace_all-requires-clause-all_there : goal.replace_all-requires-clause-all_there
replace_all-requires-clause-all_there g c =
    let m = c.loop-olds.invariant.merging in
    let front = take c.loop-olds.olds c.loop-olds.list.items in
    rw c.deref_mut.ensures.value (omega (arith, m.long, m.few, c.loop-olds-test.false, length-puts_least g.K.Keyed.key_of front c.loop-olds.news.now, length-take c.loop-olds.olds c.loop-olds.list.items))
