use Rattle.std.proofs.Common.{◌≡◌, ℤ, IsTrue, take}
use Rattle.crush.specs.Slots.{marks}
use Rattle.crush.specs.WellFormed.{is_known, times_in}
use Rattle.crush.proofs.met.are_met_once.Given as goal

-- the marks are what the buckets so far hold
abbrev pub invariant-loop-bucket : goal.invariant-loop-bucket
invariant-loop-bucket l = (id : ℤ) → IsTrue (is_known l.buckets 4096 id) → marks l.buckets l.seen id ≡ times_in (take l.bucket-index l.buckets) id
