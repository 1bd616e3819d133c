use Rattle.std.proofs.Common.{◌≡◌, get_or, false, true, pos, w32, refl, rules, arith}
use Rattle.std.proofs.lemmas.Int.{to_z-of_z}
use Rattle.std.proofs.lemmas.List.{get_or_default}
use Rattle.buckets.specs.declared.bucket.Item.{Item}
use Rattle.crush.specs.Slots.{slot, marks}
use Rattle.crush.specs.WellFormed.{is_known}
use Rattle.crush.proofs.ItemMarks.{marked_twice, marked_more}
use Rattle.keylist.proofs.Each.{list_all-at}
use Rattle.crush.proofs.met.mark.Goals as goal
use mir.Val.{SFits}

-- the item is known, and stands before this place too
pub returns-then-seen-slot-clause-twice : goal.returns-then-seen-slot-clause-twice
returns-then-seen-slot-clause-twice c =
    let buckets = c.args.buckets.now in
    let items = c.args.items.now in
    let k = c.loop-item.item-index in
    let no_item : Item = record { id = pos 0; weight = 0 } in
    let item : Item = get_or items k (record { id = pos 0; weight = 0 }) in
    let fits : SFits w32 item.id = search rules in
    let known = list_all-at (λ (i : Item). is_known buckets 4096 i.id) items k (record { id = pos 0; weight = 0 }) c.loop-item-test.true c.requires.known in
    let place : c.slot_of-slot.result ≡ slot buckets item.id = rw (to_z-of_z w32 item.id fits) at c.slot_of-slot.ensures.value in
    let marked : get_or c.loop-item.seen (slot buckets item.id) false ≡ true = rw place at c.if-seen-slot.true in
    (item, (k, c.loop-item-test.true, get_or_default items k item no_item c.loop-item-test.true), marked_twice buckets items k c.loop-item.seen (marks buckets c.args.seen.now item.id) no_item item.id c.loop-item-test.true refl marked (c.loop-item.invariant item.id known))

-- the item is known, and was not marked
pub loop-item-preserved : goal.loop-item-preserved
loop-item-preserved c =
    let buckets = c.args.buckets.now in
    let items = c.args.items.now in
    let k = c.loop-item.item-index in
    let no_item : Item = record { id = pos 0; weight = 0 } in
    let item : Item = get_or items k (record { id = pos 0; weight = 0 }) in
    let fits : SFits w32 item.id = search rules in
    let known = list_all-at (λ (i : Item). is_known buckets 4096 i.id) items k (record { id = pos 0; weight = 0 }) c.loop-item-test.true c.requires.known in
    let place : c.slot_of-slot.result ≡ slot buckets item.id = rw (to_z-of_z w32 item.id fits) at c.slot_of-slot.ensures.value in
    let fresh : get_or c.loop-item.seen (slot buckets item.id) false ≡ false = rw place at c.if-seen-slot.false in
    rw place (marked_more buckets items k c.loop-item.seen (marks buckets c.args.seen.now) no_item item.id (omega arith) (omega (arith, place, c.slot_of-slot.ensures.within)) c.loop-item-test.true refl known fresh c.loop-item.invariant)
