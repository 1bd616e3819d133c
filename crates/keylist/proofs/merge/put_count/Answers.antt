use Rattle.std.proofs.Common.{◌≤◌, arith, refl, take, length}
use Rattle.std.proofs.lemmas.List.{length-take}
use Rattle.keylist.specs.Keys.{has_key}
use Rattle.keylist.proofs.KeyedMaps.{counted, length-puts_most}
use Rattle.keylist.proofs.merge.put_count.Goals as goal
use Rattle.keylist.proofs.merge.put_count.Goals.{then-is_first+then-not-has, else-is_first, else-is_first-via-then-is_first+else-not-has, else-is_first-via-else-is_first}

pub overflow_add-count : goal.overflow_add-count
overflow_add-count g c =
    let new = c.args.new.now in
    let at = c.loop-at.at in
    let most = length-puts_most g.K.Keyed.key_of c.args.old.now (take at new) c.requires.rising in
    let short : length (take at new) ≤ at = rw length-take (omega arith) in
    omega (arith, most, short, c.loop-at.invariant, c.loop-at-test.true, c.requires.few)

pub loop-at-preserved : goal.loop-at-preserved
loop-at-preserved g c =
    let key = g.K.Keyed.key_of in
    let new = c.args.new.now in
    let at = c.loop-at.at in
    let entry = c.index-new-at.result in
    let go_on = counted key c.args.old.now new at c.loop-at.count c.if-is_first.count entry in
    let inside = c.loop-at-test.true in
    let here = c.index-new-at.is in
    elim c.if-is_first.branch [
      | then-is_first+then-not-has w ↦
          go_on c.is_first.result w.has.result c.requires.rising inside here c.loop-at.invariant (c.is_first.ensures entry) (rw w.key.ensures at w.has.ensures)
          (rw (w.count-is, w.if-is_first.true, w.if-not-has.true) refl)
      | else-is_first w ↦ elim w.else-is_first.branch [
        | else-is_first-via-then-is_first+else-not-has v ↦
            go_on c.is_first.result v.has.result c.requires.rising inside here c.loop-at.invariant (c.is_first.ensures entry) (rw v.key.ensures at v.has.ensures)
            (rw (w.count-is, v.if-is_first.true, v.if-not-has.false) (omega arith))
        | else-is_first-via-else-is_first v ↦
            go_on c.is_first.result (has_key key c.args.old.now (key entry)) c.requires.rising inside here c.loop-at.invariant (c.is_first.ensures entry) refl
            (rw (w.count-is, v.if-is_first.false) (omega arith))
      ]
    ]
