use Rattle.std.proofs.Common.{◌≡◌, get_or, slice_index, pos, w32, refl, rules, arith}
use Rattle.std.proofs.lemmas.Int.{to_z-of_z}
use Rattle.buckets.specs.declared.bucket.Item.{Item}
use Rattle.crush.specs.Slots.{slot}
use Rattle.crush.specs.WellFormed.{is_known}
use Rattle.crush.proofs.ParentPlaces.{entered_more}
use Rattle.keylist.proofs.Each.{list_all-at}
use Rattle.crush.proofs.parents.enter.Goals as goal
use mir.Val.{SFits}

pub loop-item-preserved : goal.loop-item-preserved
loop-item-preserved c =
    let buckets = c.args.buckets.now in
    let items = c.args.items.now in
    let k = c.loop-item.item-index in
    let no_item : Item = record { id = pos 0; weight = 0 } in
    let item : Item = get_or items k (record { id = pos 0; weight = 0 }) in
    let fits : SFits w32 item.id = search rules in
    let known = list_all-at (λ (i : Item). is_known buckets 4096 i.id) items k (record { id = pos 0; weight = 0 }) c.loop-item-test.true c.requires.known in
    let place : c.slot_of.result ≡ slot buckets item.id = rw (to_z-of_z w32 item.id fits) at c.slot_of.ensures.value in
    rw place (entered_more buckets items k c.args.place c.loop-item.parents (λ id. slice_index c.args.parents.now (slot buckets id)) no_item item.id (omega arith) (omega (arith, place, c.slot_of.ensures.within)) c.loop-item-test.true refl known c.loop-item.invariant)
