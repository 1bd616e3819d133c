-- A forest of buckets, as the CRUSH paper (SC 2006, section 3.3) and Ceph's crush.h have it: a list of buckets, each
-- of an id of its own.
use Rattle.std.specs.Prelude.{ℕ, ℤ, List, Option}
use Rattle.std.specs.Option.{option_map_or}
use Rattle.std.specs.Ordering.{int_eq}
use Rattle.std.specs.List.{find}
use Rattle.buckets.specs.declared.bucket.Bucket.{Bucket}

-- the bucket of an id
abbrev pub bucket_at : List Bucket → ℤ → Option Bucket
bucket_at buckets id = find (λ b. int_eq b.id id) buckets

-- the type of an item: that of its bucket, and 0 for a device
abbrev pub level_of : List Bucket → ℤ → ℕ
level_of buckets item = option_map_or (λ b. b.level) (bucket_at buckets item) 0
