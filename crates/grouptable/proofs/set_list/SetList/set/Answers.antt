use Rattle.std.proofs.Common.{◌*◌, drop, length, ap, arith}
use Rattle.std.proofs.lemmas.List.{length-take-le, length-drop}
use Rattle.grouptable.proofs.Stored.{set_within, set_there}
use Rattle.grouptable.proofs.set_list.SetList.set.Goals as goal

pub part-requires : goal.part-requires
part-requires c =
    let i = c.self.inside in
    let below = rw (← c.self.view_is) at c.requires in
    omega (arith, ap length c.deref.ensures.value, set_within i.width i.len i.places.items c.args.group c.self.invariant below)

pub returns-clause-value : goal.returns-clause-value
returns-clause-value c =
    let i = c.self.inside in
    let below = rw (← c.self.view_is) at c.requires in
    rw (c.filled_places.ensures.value, c.part.ensures, c.deref.ensures.value, ← c.self.view_is) (set_there i.width i.len i.places.items c.args.group below)

pub returns-clause-few : goal.returns-clause-few
returns-clause-few c =
    let i = c.self.inside in
    let below = rw (← c.self.view_is) at c.requires in
    let within = set_within i.width i.len i.places.items c.args.group c.self.invariant below in
    omega (arith, c.filled_places.ensures.few, ap length c.part.ensures, ap length c.deref.ensures.value, length-take-le i.width (drop (c.args.group * i.width) c.deref.result.now) (omega (arith, length-drop (c.args.group * i.width) c.deref.result.now, ap length c.deref.ensures.value, within)), c.self.invariant.narrow)
