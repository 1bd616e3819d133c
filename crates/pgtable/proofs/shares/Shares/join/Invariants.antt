use Rattle.std.proofs.Common.{◌≡◌, ◌<◌, ◌≤◌, ℕ, length, map, slice_index_or, take, IsSome}
use Rattle.pgtable.specs.declared.rooms.Room.{Room}
use Rattle.pgtable.specs.After.{map_after}
use Rattle.pgtable.specs.Patches.{with_sets}
use Rattle.pgtable.specs.Rooms.{start_of}
use Rattle.pgtable.proofs.shares.Shares.join.Given as goal

abbrev pub invariant-loop-i : goal.invariant-loop-i
invariant-loop-i l = record {
  made : l.changes.items ≡ with_sets (map_after l.self.update.now) l.self.pool.now (take (start_of l.i l.self.size (length l.self.numbers.now)) l.self.numbers.now);
  all : (k : ℕ) (d : Room) → k < l.i → IsSome (slice_index_or l.initial.rooms k d).changes;
  rest : (k : ℕ) (d : Room) → l.i ≤ k → slice_index_or l.rooms k d ≡ slice_index_or l.initial.rooms k d;
  works : map (λ (r : Room). r.work) l.rooms ≡ map (λ (r : Room). r.work) l.initial.rooms;
}
