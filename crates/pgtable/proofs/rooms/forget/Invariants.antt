use Rattle.std.proofs.Common.{◌≡◌, map}
use Rattle.pgtable.specs.declared.rooms.Room.{Room}
use Rattle.pgtable.proofs.rooms.forget.Given as goal

abbrev pub invariant-loop-i : goal.invariant-loop-i
invariant-loop-i l = map (λ (r : Room). r.work) l.rooms ≡ map (λ (r : Room). r.work) l.initial.rooms
