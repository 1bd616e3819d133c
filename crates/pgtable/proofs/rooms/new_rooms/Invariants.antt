use Rattle.std.proofs.Common.{◌≡◌, length, map}
use Rattle.pgtable.specs.Rooms.{runs_of}
use Rattle.pgtable.specs.declared.rooms.Room.{Room}
use Rattle.pgtable.proofs.rooms.new_rooms.Given as goal

abbrev pub invariant-loop-room : goal.invariant-loop-room
invariant-loop-room l = record {
  len : length l.rooms.items ≡ l._room;
  runs : runs_of (map (λ (r : Room). r.work) l.rooms.items) ≡ 0;
}
