use Rattle.std.proofs.Common.{◌≡◌, ℕ, ◌≤◌, length, get_or, []}
use Rattle.grouptable.proofs.build.reach.Given as goal

abbrev pub invariant-loop-count : goal.invariant-loop-count
invariant-loop-count l = record {
  long : length l.lists.items ≡ l._count;
  few : length l.lists.items ≤ 4096;
  same : (k : ℕ) → get_or l.lists.items k [] ≡ get_or l.initial.lists.items k [];
}
