use Rattle.std.proofs.Common.{◌*◌, length, ap, ◌∙◌, arith}
use Rattle.grouptable.proofs.Stored.{length_written, set_within, set_replaced}
use Rattle.grouptable.proofs.set_list.SetList.put.Goals as goal

pub write-requires : goal.write-requires
write-requires c =
    let i = c.self.inside in
    let below = rw (← c.self.view_is) at c.requires.within in
    omega (arith, set_within i.width i.len i.places.items c.args.group c.self.invariant below, c.row-row.ensures.len)

pub invariant_of-self : goal.invariant_of-self
invariant_of-self c =
    let i = c.self.inside in
    let below = rw (← c.self.view_is) at c.requires.within in
    let long = length_written (c.args.group * i.width) c.row-row.result.now i.places.items (omega (arith, c.row-row.ensures.len, set_within i.width i.len i.places.items c.args.group c.self.invariant below)) in
    record {
      narrow = c.self.invariant.narrow;
      few = c.self.invariant.few;
      all = ap length c.write.ensures ∙ long ∙ c.self.invariant.all;
    }

pub returns : goal.returns
returns c =
    let i = c.self.inside in
    let below = rw (← c.self.view_is) at c.requires.within in
    rw (c.write.ensures, ← c.self.view_is, ← c.row-row.ensures.value)
    (ap (λ ss. record { width = i.width; sets = ss }) (set_replaced i.width i.len i.places.items c.row-row.result.now c.args.group c.self.invariant c.row-row.ensures.len below))
