use Rattle.std.proofs.Common.{ap, length, arith}
use Rattle.grouptable.proofs.Stored.{push_filled, filled_len}
use Rattle.grouptable.proofs.osd_set.OsdSet.push.Goals as goal

pub invariant_of-self : goal.invariant_of-self
invariant_of-self c =
    let len = filled_len c.self.inside.len c.self.inside.places c.self.invariant in
    let long = ap length c.self.view_is in
    rw c.from.ensures (push_filled c.self.inside.len c.self.inside.places c.store_place.result c.self.invariant (omega (arith, len, long, c.requires.room)) c.store_place.ensures.filled)
