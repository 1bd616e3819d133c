use Rattle.std.proofs.Common.{◌≡◌, ◌<◌, ℕ, slice_index_or, IsSome}
use Rattle.pgtable.specs.Rooms.{parts_before}
use Rattle.pgtable.specs.declared.rooms.Room.{Room}
use Rattle.pgtable.proofs.parts.Parts.join.Given as goal

abbrev pub invariant-loop-room : goal.invariant-loop-room
invariant-loop-room l = record {
  sets : l.sets ≡ parts_before l.self.placing.now.map.now.map l.self.placing.now.pool l.room-index l.self.size;
  all : (k : ℕ) (d : Room) → k < l.room-index → IsSome (slice_index_or l.rooms k d).made;
}
