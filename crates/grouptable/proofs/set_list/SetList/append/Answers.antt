use Rattle.std.proofs.Common.{◌≡◌, length, sym, ap, ◌∙◌, ◌+◌, ◌*◌, arith}
use Rattle.std.proofs.lemmas.List.{length-append}
use Rattle.grouptable.specs.Sets.{GroupSets}
use Rattle.grouptable.proofs.Stored.{sets_count, sets_append}
use Rattle.grouptable.proofs.set_list.SetList.append.Goals as goal

pub invariant_of-self-2 : goal.invariant_of-self-2
invariant_of-self-2 c =
    let i = c.self.inside in
    let o = c.others.inside in
    let wide : o.width ≡ i.width = ap (λ (g : GroupSets). g.width) c.others.view_is ∙ c.requires.width ∙ sym (ap (λ (g : GroupSets). g.width) c.self.view_is) in
    let long = ap (λ (g : GroupSets). length g.sets) c.self.view_is in
    let longer = ap (λ (g : GroupSets). length g.sets) c.others.view_is in
    let count = sets_count i.width i.len i.places.items in
    let counted = sets_count o.width o.len o.places.items in
    let theirs : length o.places.items ≡ o.len * i.width = rw wide at c.others.invariant.all in
    let more : (i.len + o.len) * i.width ≡ i.len * i.width + o.len * i.width = omega arith in
    let all = ap length c.in_ok-extend_from_slice.ensures.items ∙ length-append i.places.items c.deref.result.now in
    record {
      narrow = c.self.invariant.narrow;
      few = omega (arith, count, counted, long, longer, c.requires.few);
      all = omega (arith, all, more, theirs, ap length c.deref.ensures.value, c.self.invariant.all);
    }

pub returns : goal.returns
returns c =
    let i = c.self.inside in
    let o = c.others.inside in
    let wide : o.width ≡ i.width = ap (λ (g : GroupSets). g.width) c.others.view_is ∙ c.requires.width ∙ sym (ap (λ (g : GroupSets). g.width) c.self.view_is) in
    rw (c.in_ok-extend_from_slice.ensures.items, c.deref.ensures.value, ← c.self.view_is, ← c.others.view_is, wide)
    (ap (λ ss. record { width = i.width; sets = ss }) (sets_append i.width i.len o.len i.places.items o.places.items c.self.invariant.all))
