use Rattle.std.proofs.Common.{◌≡◌, length, ap, ◌∙◌, ◌+◌, ◌*◌, arith}
use Rattle.std.proofs.lemmas.List.{length-append}
use Rattle.grouptable.specs.Sets.{GroupSets}
use Rattle.grouptable.proofs.Stored.{sets_count, set_pushed}
use Rattle.grouptable.proofs.set_list.SetList.push.Goals as goal

pub invariant_of-self-2 : goal.invariant_of-self-2
invariant_of-self-2 c =
    let i = c.self.inside in
    let count = sets_count i.width i.len i.places.items in
    let long = ap (λ (g : GroupSets). length g.sets) c.self.view_is in
    let more : (i.len + 1) * i.width ≡ i.len * i.width + i.width = omega arith in
    let all = ap length c.in_ok-extend_from_slice.ensures.items ∙ length-append i.places.items c.row.result.now in
    record {
      narrow = c.self.invariant.narrow;
      few = omega (arith, count, long, c.requires.few);
      all = omega (arith, all, more, c.self.invariant.all, c.row.ensures.len);
    }

pub returns : goal.returns
returns c =
    let i = c.self.inside in
    rw (c.in_ok-extend_from_slice.ensures.items, ← c.self.view_is, ← c.row.ensures.value)
    (ap (λ ss. record { width = i.width; sets = ss }) (set_pushed i.width i.len i.places.items c.row.result.now c.self.invariant.all c.row.ensures.len))
