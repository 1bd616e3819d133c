use Rattle.std.proofs.Common.{arith}
use Rattle.keylist.proofs.KeyedDistinct.{apart}
use Rattle.keylist.proofs.find.are_apart.Goals as goal
use Rattle.keylist.proofs.find.are_apart.Goals.{then-are_distinct, else-are_distinct}

pub returns-then-are_distinct-2 : goal.returns-then-are_distinct-2
returns-then-are_distinct-2 g c =
    let whole = apart g.K.Keyed.key_of g.L.Keyed.key_of c.args.some.now c.args.others.now in
    elim c.if-are_distinct.branch [
      | then-are_distinct w ↦ rw (whole, ← c.are_distinct.ensures, ← c.share_key.ensures) (grind (arith, c.if-are_distinct-2.true, w.value-is, w.if-are_distinct.true, w.are_distinct-then-are_distinct.ensures))
      | else-are_distinct w ↦ rw (whole, ← c.are_distinct.ensures, ← c.share_key.ensures) (grind (arith, c.if-are_distinct-2.true, w.value-is, w.if-are_distinct.false))
    ]

pub returns-else-are_distinct-2 : goal.returns-else-are_distinct-2
returns-else-are_distinct-2 g c =
    let whole = apart g.K.Keyed.key_of g.L.Keyed.key_of c.args.some.now c.args.others.now in
    elim c.if-are_distinct.branch [
      | then-are_distinct w ↦ rw (whole, ← c.are_distinct.ensures) (grind (arith, c.if-are_distinct-2.false, w.value-is, w.if-are_distinct.true, w.are_distinct-then-are_distinct.ensures))
      | else-are_distinct w ↦ rw (whole, ← c.are_distinct.ensures) (grind (arith, c.if-are_distinct-2.false, w.value-is, w.if-are_distinct.false))
    ]
