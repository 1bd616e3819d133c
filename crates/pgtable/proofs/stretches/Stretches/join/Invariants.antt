use Rattle.std.proofs.Common.{◌≡◌, ◌<◌, ◌≤◌, ℕ, map, slice_index_or, take, IsSome}
use Rattle.pgtable.specs.declared.rooms.Room.{Room}
use Rattle.pgtable.specs.Stretches.{first_of}
use Rattle.pgtable.specs.Tables.{pool_table}
use Rattle.pgtable.proofs.stretches.Stretches.join.Given as goal

abbrev pub invariant-loop-i : goal.invariant-loop-i
invariant-loop-i l = record {
  made : l.tables.items ≡ map (pool_table l.self.map.now.map) (take (first_of l.i l.self.size l.self.pools.now) l.self.pools.now);
  all : (k : ℕ) (d : Room) → k < l.i → IsSome (slice_index_or l.initial.rooms k d).tables;
  rest : (k : ℕ) (d : Room) → l.i ≤ k → slice_index_or l.rooms k d ≡ slice_index_or l.initial.rooms k d;
  works : map (λ (r : Room). r.work) l.rooms ≡ map (λ (r : Room). r.work) l.initial.rooms;
}
