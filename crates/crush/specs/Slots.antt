-- A number of its own for each device and for each bucket of a forest, by which the items that were met are marked.
use Rattle.std.specs.Prelude.{ℕ, ◌+◌, Bool, false, ℤ, pos, negsuc, List, slice_index_or, if◌then◌else◌}
use Rattle.std.specs.Ordering.{int_eq}
use Rattle.std.specs.List.{position_or_len}
use Rattle.buckets.specs.declared.bucket.Bucket.{Bucket}
use Rattle.crush.specs.Limits.{max_buckets}
use Rattle.buckets.specs.Limits.{max_devices}

-- how many numbers there are
abbrev pub slots : ℕ
slots = max_devices + max_buckets

-- a device has its own number, and the buckets follow after the devices in their order
abbrev pub slot : List Bucket → ℤ → ℕ
slot buckets (pos n) = n
slot buckets (negsuc n) = max_devices + position_or_len (λ b. int_eq b.id (negsuc n)) buckets

-- 1 for an item that is marked, else 0
abbrev pub marks : List Bucket → List Bool → ℤ → ℕ
marks buckets seen id = if slice_index_or seen (slot buckets id) false then 1 else 0
