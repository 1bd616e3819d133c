use Rattle.std.proofs.Common.{◌≡◌, map, take}
use Rattle.maptypes.specs.Values.{bucket_of}
use Rattle.maptypes.proofs.forest_parts.buckets_of.Given as goal

abbrev pub invariant-loop-part : goal.invariant-loop-part
invariant-loop-part l = l.buckets.items ≡ map bucket_of (take l.part-index l.parts)
