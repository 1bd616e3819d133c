use Rattle.std.proofs.Common.{◌≡◌, ◌∙◌, sym, ap, refl, slice_index_or, IsSome}
use Rattle.grouptable.specs.Sets.{GroupSets}
use Rattle.pgtable.specs.Rooms.{part_of}
use Rattle.pgtable.specs.declared.rooms.Room.{Room}
use Rattle.pgtable.proofs.Parting.{some_at, one_more, made_at, next_part, part_few}
use Rattle.pgtable.proofs.parts.Parts.join.Goals as goal

pub append-requires-clause-width : goal.append-requires-clause-width
append-requires-clause-width c =
    let placing = c.args.self.now.placing.now in
    let size = c.args.self.now.size in
    let i = c.loop-room.room-index in
    let room = c.room-item.result in
    let is = some_at (slice_index_or c.args.rooms.now i room).made room.made c.in-Some.part (λ made. made ≡ part_of placing.map.now.map placing.pool i size) (c.requires i room c.loop-room-test.true) (ap (λ (r : Room). r.made) (sym c.room-item.is)) c.in-Some.is in
    ap (λ (g : GroupSets). g.width) is ∙ sym (ap (λ (g : GroupSets). g.width) c.loop-room.invariant.sets)

pub append-requires-clause-few : goal.append-requires-clause-few
append-requires-clause-few c =
    let placing = c.args.self.now.placing.now in
    let size = c.args.self.now.size in
    let i = c.loop-room.room-index in
    let room = c.room-item.result in
    let is = some_at (slice_index_or c.args.rooms.now i room).made room.made c.in-Some.part (λ made. made ≡ part_of placing.map.now.map placing.pool i size) (c.requires i room c.loop-room-test.true) (ap (λ (r : Room). r.made) (sym c.room-item.is)) c.in-Some.is in
    let sets = ap (λ (g : GroupSets). g.sets) c.loop-room.invariant.sets in
    rw (sets, ap (λ (g : GroupSets). g.sets) is) (part_few placing.map.now.map placing.pool i size c.is_within_limits.ensures.groups_most)

pub loop-room-preserved : goal.loop-room-preserved
loop-room-preserved c =
    let placing = c.args.self.now.placing.now in
    let size = c.args.self.now.size in
    let i = c.loop-room.room-index in
    let room = c.room-item.result in
    let is = some_at (slice_index_or c.args.rooms.now i room).made room.made c.in-Some.part (λ made. made ≡ part_of placing.map.now.map placing.pool i size) (c.requires i room c.loop-room-test.true) (ap (λ (r : Room). r.made) (sym c.room-item.is)) c.in-Some.is in
    let width = ap (λ (g : GroupSets). g.width) c.loop-room.invariant.sets in
    let sets = ap (λ (g : GroupSets). g.sets) c.loop-room.invariant.sets in
    let next = next_part placing.map.now.map placing.pool i size in
    record {
      sets = c.in_ok-append.ensures ∙ rw (width, sets, ap (λ (g : GroupSets). g.sets) is, next) refl;
      all = λ k d inside. one_more (λ j. (e : Room) → IsSome (slice_index_or c.args.rooms.now j e).made) i (λ j less e. c.loop-room.invariant.all j e less) (λ e. made_at c.args.rooms.now i room e c.loop-room-test.true c.room-item.is (rw c.in-Some.is refl)) k inside d;
    }
