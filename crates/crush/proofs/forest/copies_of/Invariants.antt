use Rattle.std.proofs.Common.{◌≡◌, take}
use Rattle.crush.proofs.forest.copies_of.Given as goal

-- the buckets so far are copied
abbrev pub invariant-loop-bucket : goal.invariant-loop-bucket
invariant-loop-bucket l = l.copies.items ≡ take l.bucket-index l.buckets
