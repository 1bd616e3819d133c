use Rattle.std.proofs.Common.{◌≡◌, ℕ, ◌≤◌, length, take, slice_index}
use Rattle.buckets.specs.Items.{weight_of}
use Rattle.buckets.proofs.pick.tree.sums_of.Given as goal

abbrev pub invariant-loop-place : goal.invariant-loop-place
invariant-loop-place l = record {
  room : length l.sums ≡ 65;
  weighed : l.sum ≡ weight_of (take l.place l.items);
  added : (k : ℕ) → k ≤ l.place → slice_index l.sums k ≡ weight_of (take k l.items);
}
