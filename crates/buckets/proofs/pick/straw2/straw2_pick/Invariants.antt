use Rattle.std.proofs.Common.{◌+◌, ◌*◌, min, length}
use Rattle.buckets.specs.Straw2.{shortfall_at}
use Rattle.buckets.proofs.Straws.{IsLongest}
use Rattle.buckets.proofs.pick.straw2.straw2_pick.Given as goal

abbrev pub invariant-loop-block : goal.invariant-loop-block
invariant-loop-block l = IsLongest (shortfall_at l.x l.r l.items) (min (4 * l.block) (length l.items)) l.longest

abbrev pub invariant-loop-at : goal.invariant-loop-at
invariant-loop-at l = IsLongest (shortfall_at l.x l.r l.items) (min (4 * l.block + l.at) (length l.items)) l.longest
